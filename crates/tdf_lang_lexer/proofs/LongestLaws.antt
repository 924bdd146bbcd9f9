-- The pieces of a line are those of the longest match.
use Rattle.std.proofs.Common.{◌≡◌, ℕ, zero, suc, ◌<◌, Bool, true, false, List, [], ◌∷◌, ◌++◌, length, take, refl, ap, sym, ◌∙◌, append_assoc, arith, subst, ◌⊎◌, inl, inr, ◌&&◌, ◌||◌, nat_eq, length-append, eqb}
use Rattle.std.proofs.lemmas.List.{append-nil}
use Rattle.std.proofs.lemmas.Bool.{eqb-true}
use Rattle.std.specs.List.{list_all}
use Rattle.tdf_lang_lexer.specs.Longest.{IsForm, word, number, pair, single, IsCut, blank, piece}
use Rattle.tdf_base.specs.Digits.{is_digit}
use Rattle.tdf_base.specs.Names.{is_letter, is_part}
use Rattle.tdf_lang_lexer.specs.Pieces.{is_space, is_pair, joins, first_piece, begins_with_digit, pieces_from, pieces_of}
use Rattle.tdf_lang_lexer.specs.Text.{unless_empty}

pub and_left : (a b : Bool) → a && b ≡ true → a ≡ true
and_left true b h = refl
and_left false b h = absurd cc

pub and_right : (a b : Bool) → a && b ≡ true → b ≡ true
and_right true b h = h
and_right false b h = absurd cc

pub and_both : (a b : Bool) → a ≡ true → b ≡ true → a && b ≡ true
and_both true b g h = h
and_both false b g h = absurd cc

or_right : (a b : Bool) → b ≡ true → a || b ≡ true
or_right true b h = refl
or_right false b h = h

pub or_cases : (a b : Bool) → a || b ≡ true → (a ≡ true) ⊎ (b ≡ true)
or_cases true b h = inl refl
or_cases false b h = inr h

all-append : (p : ℕ → Bool) (xs ys : List ℕ) → list_all p xs ≡ true → list_all p ys ≡ true → list_all p (xs ++ ys) ≡ true
all-append p [] ys g h = h
all-append p (x ∷ xs) ys g h = and_both (p x) (list_all p (xs ++ ys)) (and_left (p x) (list_all p xs) g) (all-append p xs ys (and_right (p x) (list_all p xs) g) h)

pub all-inside : (p : ℕ → Bool) (xs ys : List ℕ) (y : ℕ) → list_all p (xs ++ y ∷ ys) ≡ true → p y ≡ true
all-inside p [] ys y h = and_left (p y) (list_all p ys) h
all-inside p (x ∷ xs) ys y h = all-inside p xs ys y (and_right (p x) (list_all p (xs ++ y ∷ ys)) h)

digit_is_part : (byte : ℕ) → is_digit byte ≡ true → is_part byte ≡ true
digit_is_part byte h = or_right (is_letter byte) (is_digit byte) h

-- where a piece with a point can be cut
data Split (byte : ℕ) (now rest whole fraction : List ℕ) : Type 0 where
  inside : is_part byte ≡ true → Split byte now rest whole fraction
  at_point : byte ≡ 46 → now ≡ whole → rest ≡ fraction → Split byte now rest whole fraction

wider : (byte w n : ℕ) (now rest whole fraction : List ℕ) → w ≡ n → Split byte now rest whole fraction → Split byte (n ∷ now) rest (w ∷ whole) fraction
wider byte w n now rest whole fraction e (inside h) = inside h
wider byte w n now rest whole fraction e (at_point f g h) = at_point f (let q : n ∷ now ≡ w ∷ whole = cc in q) h

split : (whole fraction now rest : List ℕ) (byte : ℕ) → whole ++ 46 ∷ fraction ≡ now ++ byte ∷ rest → list_all is_digit whole ≡ true
    → list_all is_part fraction ≡ true → Split byte now rest whole fraction
split [] fraction [] rest byte e h k =
    let f : byte ≡ 46 = cc in
    let g : rest ≡ fraction = cc in
    at_point f refl g
split [] fraction (n ∷ ns) rest byte e h k =
    let f : fraction ≡ ns ++ byte ∷ rest = cc in
    inside (all-inside is_part ns rest byte (subst (λ (l : List ℕ). list_all is_part l ≡ true) f k))
split (w ∷ ws) fraction [] rest byte e h k =
    let f : w ≡ byte = cc in
    inside (digit_is_part byte (subst (λ (b : ℕ). is_digit b ≡ true) f (and_left (is_digit w) (list_all is_digit ws) h)))
split (w ∷ ws) fraction (n ∷ ns) rest byte e h k =
    let f : w ≡ n = cc in
    let g : ws ++ 46 ∷ fraction ≡ ns ++ byte ∷ rest = cc in
    wider byte w n ns rest ws fraction f (split ws fraction ns rest byte g (and_right (is_digit w) (list_all is_digit ws) h) k)

-- when a byte joins
pub joins_part : (first byte : ℕ) (more rest : List ℕ) → is_part first ≡ true → is_part byte ≡ true → joins (first ∷ more) byte rest ≡ true
joins_part first byte more rest e f = rw (e, f) refl

joins_point : (first : ℕ) (more rest : List ℕ) → is_part first ≡ true → list_all is_digit (first ∷ more) ≡ true → begins_with_digit rest ≡ true
    → joins (first ∷ more) 46 rest ≡ true
joins_point first more rest e f g = rw (e, f, g) refl

not_joined : (first byte m : ℕ) (ms rest : List ℕ) → is_part first ≡ false → joins (first ∷ m ∷ ms) byte rest ≡ false
not_joined first byte m ms rest e = rw e (let f : eqb (suc (length ms)) 0 ≡ false = grind arith in rw f refl)

pub pair_first : (first second : ℕ) → is_pair first second ≡ true → (first ≡ 60) ⊎ (first ≡ 62) ⊎ (first ≡ 61) ⊎ (first ≡ 33)
pair_first first second h = grind (arith, eqb-true)

pair_not_part : (first second : ℕ) → is_pair first second ≡ true → is_part first ≡ false
pair_not_part first second h = elim (pair_first first second h) [ inl e ↦ rw e refl | inr f ↦ elim f [ inl e ↦ rw e refl | inr g ↦ elim g [ inl e ↦ rw e refl | inr e ↦ rw e refl ] ] ]

pair_joins : (first second : ℕ) (rest : List ℕ) → is_pair first second ≡ true → joins (first ∷ []) second rest ≡ true
pair_joins first second rest h = rw (pair_not_part first second h, h) refl

form_some : {p : List ℕ} → IsForm p → 0 < length p
form_some (word p h k) = h
form_some (number whole fraction h k l m) = omega (arith, h, length-append whole (46 ∷ fraction))
form_some (pair first second h) = omega arith
form_some (single byte h k) = omega arith

pub digits_first : (w : ℕ) (ws : List ℕ) → list_all is_digit (w ∷ ws) ≡ true → is_part w ≡ true
digits_first w ws h = digit_is_part w (and_left (is_digit w) (list_all is_digit ws) h)

-- the first byte of digits with something after them
first_of_digits : (whole xs more : List ℕ) (first y : ℕ) → 0 < length whole → list_all is_digit whole ≡ true → whole ++ y ∷ xs ≡ first ∷ more → is_part first ≡ true
first_of_digits [] xs more first y h k e = absurd (omega (arith, h))
first_of_digits (w ∷ ws) xs more first y h k e =
    let f : w ≡ first = cc in
    subst (λ (b : ℕ). is_part b ≡ true) f (digits_first w ws k)

-- a form that begins with a piece and a byte after it: the byte joins
not_longer_by : (first : ℕ) (more : List ℕ) (byte : ℕ) (q rest : List ℕ) {p : List ℕ} → IsForm p → p ≡ (first ∷ more) ++ byte ∷ q
    → (begins_with_digit q ≡ true → begins_with_digit rest ≡ true) → joins (first ∷ more) byte rest ≡ true
not_longer_by first more byte q rest (word p h k) e d =
    let all : list_all is_part ((first ∷ more) ++ byte ∷ q) ≡ true = subst (λ (l : List ℕ). list_all is_part l ≡ true) e k in
    joins_part first byte more rest (and_left (is_part first) (list_all is_part (more ++ byte ∷ q)) all) (all-inside is_part (first ∷ more) q byte all)
not_longer_by first more byte q rest (number whole fraction h k l m) e d =
    let part : is_part first ≡ true = first_of_digits whole fraction (more ++ byte ∷ q) first 46 h k e in
    elim (split whole fraction (first ∷ more) q byte e k m) [
      | inside i ↦ joins_part first byte more rest part i
      | at_point f g i ↦
          let digits : list_all is_digit (first ∷ more) ≡ true = subst (λ (w : List ℕ). list_all is_digit w ≡ true) (sym g) k in
          let begins : begins_with_digit rest ≡ true = d (subst (λ (w : List ℕ). begins_with_digit w ≡ true) (sym i) l) in
          subst (λ (b : ℕ). joins (first ∷ more) b rest ≡ true) (sym f) (joins_point first more rest part digits begins)
    ]
not_longer_by first [] byte [] rest (pair a b h) e d =
    let f : a ≡ first = cc in
    let g : b ≡ byte = cc in
    pair_joins first byte rest (subst (λ (x : ℕ). is_pair x byte ≡ true) f (subst (λ (y : ℕ). is_pair a y ≡ true) g h))
not_longer_by first [] byte (x ∷ q) rest (pair a b h) e d = absurd cc
not_longer_by first (m ∷ []) byte q rest (pair a b h) e d = absurd cc
not_longer_by first (m ∷ n ∷ ms) byte q rest (pair a b h) e d = absurd cc
not_longer_by first [] byte q rest (single b h k) e d = absurd cc
not_longer_by first (m ∷ ms) byte q rest (single b h k) e d = absurd cc

begins_with-take : (n : ℕ) (rest : List ℕ) → begins_with_digit (take n rest) ≡ true → begins_with_digit rest ≡ true
begins_with-take zero rest h = absurd cc
begins_with-take (suc n) [] h = absurd cc
begins_with-take (suc n) (byte ∷ rest) h = h

not_longer : {now : List ℕ} (byte : ℕ) (rest : List ℕ) → IsForm now → joins now byte rest ≡ false → (n : ℕ) → 0 < n → 0 < length (byte ∷ rest)
    → IsForm (now ++ take n (byte ∷ rest)) → ⊥
not_longer {now = []} byte rest f j n h k g = absurd (omega (arith, form_some f))
not_longer {now = first ∷ more} byte rest f j zero h k g = omega (arith, h)
not_longer {now = first ∷ more} byte rest f j (suc n) h k g =
    let t : joins (first ∷ more) byte rest ≡ true = not_longer_by first more byte (take n rest) rest g refl (begins_with-take n rest) in
    absurd (let q : true ≡ false = sym t ∙ j in cc)

-- the piece so far: nothing, a form, or digits and a point before a digit
data Ready : List ℕ → List ℕ → Type 0 where
  none : (rest : List ℕ) → Ready [] rest
  form : {now : List ℕ} (rest : List ℕ) → IsForm now → Ready now rest
  point : (whole rest : List ℕ) → 0 < length whole → list_all is_digit whole ≡ true → begins_with_digit rest ≡ true → Ready (whole ++ 46 ∷ []) rest

word_more : (first byte : ℕ) (more rest : List ℕ) → list_all is_part (first ∷ more) ≡ true → joins (first ∷ more) byte rest ≡ true
    → Ready ((first ∷ more) ++ byte ∷ []) rest
word_more first byte more rest h j =
    let part : is_part first ≡ true = and_left (is_part first) (list_all is_part more) h in
    let joined : is_part byte || (nat_eq byte 46 && list_all is_digit (first ∷ more) && begins_with_digit rest) ≡ true = rw part at j in
    elim (or_cases (is_part byte) (nat_eq byte 46 && list_all is_digit (first ∷ more) && begins_with_digit rest) joined) [
      | inl b ↦ form rest (word ((first ∷ more) ++ byte ∷ []) (omega arith) (all-append is_part (first ∷ more) (byte ∷ []) h (and_both (is_part byte) true b refl)))
      | inr c ↦
          let e : byte ≡ 46 = eqb-true byte 46 (and_left (nat_eq byte 46) (list_all is_digit (first ∷ more)) (and_left (nat_eq byte 46 && list_all is_digit (first ∷ more)) (begins_with_digit rest) c)) in
          let d : list_all is_digit (first ∷ more) ≡ true = and_right (nat_eq byte 46) (list_all is_digit (first ∷ more)) (and_left (nat_eq byte 46 && list_all is_digit (first ∷ more)) (begins_with_digit rest) c) in
          let b : begins_with_digit rest ≡ true = and_right (nat_eq byte 46 && list_all is_digit (first ∷ more)) (begins_with_digit rest) c in
          subst (λ (x : ℕ). Ready ((first ∷ more) ++ x ∷ []) rest) (sym e) (point (first ∷ more) rest (omega arith) d b)
    ]

begins_with-append : (xs ys : List ℕ) → begins_with_digit xs ≡ true → begins_with_digit (xs ++ ys) ≡ true
begins_with-append [] ys h = absurd cc
begins_with-append (x ∷ xs) ys h = h

number_more : (first : ℕ) (more : List ℕ) (byte : ℕ) (rest whole fraction : List ℕ) → 0 < length whole → list_all is_digit whole ≡ true → begins_with_digit fraction ≡ true
    → list_all is_part fraction ≡ true → whole ++ 46 ∷ fraction ≡ first ∷ more → joins (first ∷ more) byte rest ≡ true → Ready ((first ∷ more) ++ byte ∷ []) rest
number_more first more byte rest whole fraction h k l m n j =
    let part : is_part first ≡ true = first_of_digits whole fraction more first 46 h k n in
    let joined : is_part byte || (nat_eq byte 46 && list_all is_digit (first ∷ more) && begins_with_digit rest) ≡ true = rw part at j in
    elim (or_cases (is_part byte) (nat_eq byte 46 && list_all is_digit (first ∷ more) && begins_with_digit rest) joined) [
      | inl b ↦
          let f : IsForm (whole ++ 46 ∷ (fraction ++ byte ∷ [])) = number whole (fraction ++ byte ∷ []) h k (begins_with-append fraction (byte ∷ []) l)
          (all-append is_part fraction (byte ∷ []) m (and_both (is_part byte) true b refl)) in
          form rest (subst IsForm (sym (append_assoc whole (46 ∷ fraction) (byte ∷ [])) ∙ ap (λ (l : List ℕ). l ++ byte ∷ []) n) f)
      | inr c ↦
          let d : list_all is_digit (first ∷ more) ≡ true = and_right (nat_eq byte 46) (list_all is_digit (first ∷ more)) (and_left (nat_eq byte 46 && list_all is_digit (first ∷ more)) (begins_with_digit rest) c) in
          let e : list_all is_digit (whole ++ 46 ∷ fraction) ≡ true = subst (λ (x : List ℕ). list_all is_digit x ≡ true) (sym n) d in
          let f : is_digit 46 ≡ true = all-inside is_digit whole fraction 46 e in
          absurd cc
    ]

form_more : (byte : ℕ) (rest : List ℕ) (first : ℕ) (more : List ℕ) {now : List ℕ} → IsForm now → now ≡ first ∷ more → joins (first ∷ more) byte rest ≡ true
    → Ready ((first ∷ more) ++ byte ∷ []) rest
form_more byte rest first more (word p h k) e j = word_more first byte more rest (subst (λ (l : List ℕ). list_all is_part l ≡ true) e k) j
form_more byte rest first more (number whole fraction h k l m) e j = number_more first more byte rest whole fraction h k l m e j
form_more byte rest first [] (pair a b h) e j = absurd cc
form_more byte rest first (m ∷ ms) (pair a b h) e j =
    let f : a ≡ first = cc in
    let g : is_part first ≡ false = subst (λ (x : ℕ). is_part x ≡ false) f (pair_not_part a b h) in
    absurd (let q : true ≡ false = sym j ∙ not_joined first byte m ms rest g in cc)
form_more byte rest first (m ∷ ms) (single b h k) e j = absurd cc
form_more byte rest first [] (single b h k) e j =
    let f : b ≡ first = cc in
    let g : is_part first ≡ false = subst (λ (x : ℕ). is_part x ≡ false) f k in
    form rest (pair first byte (rw g at j))

ready_more : {now : List ℕ} (byte : ℕ) {left : List ℕ} (rest : List ℕ) → Ready now left → left ≡ byte ∷ rest → joins now byte rest ≡ true → Ready (now ++ byte ∷ []) rest
ready_more byte rest (none left) e j = absurd cc
ready_more {now = []} byte rest (form left f) e j = absurd cc
ready_more {now = first ∷ more} byte rest (form left f) e j = form_more byte rest first more f refl j
ready_more byte rest (point whole left h k d) e j =
    let b : is_digit byte ≡ true = subst (λ (l : List ℕ). begins_with_digit l ≡ true) e d in
    let f : IsForm (whole ++ 46 ∷ byte ∷ []) = number whole (byte ∷ []) h k b (and_both (is_part byte) true (digit_is_part byte b) refl) in
    form rest (subst IsForm (sym (append_assoc whole (46 ∷ []) (byte ∷ []))) f)

space_front : {code : List ℕ} {pieces : List (List ℕ)} (space : ℕ) → is_space space ≡ true → IsCut code pieces → IsCut (space ∷ code) pieces
space_front space h (blank spaces k) = blank (space ∷ spaces) (and_both (is_space space) (list_all is_space spaces) h k)
space_front space h (piece spaces now rest k f l c) = piece (space ∷ spaces) now rest (and_both (is_space space) (list_all is_space spaces) h k) f l c

piece_first : {now rest : List ℕ} {pieces : List (List ℕ)} → IsForm now → ((n : ℕ) → 0 < n → 0 < length rest → IsForm (now ++ take n rest) → ⊥)
    → IsCut rest pieces → IsCut (now ++ rest) (unless_empty now ++ pieces)
piece_first {now = []} f l c = absurd (omega (arith, form_some f))
piece_first {now = first ∷ more} {rest = rest} f l c = piece [] (first ∷ more) rest refl f l c

point_joins : (whole : List ℕ) (byte : ℕ) (rest : List ℕ) → 0 < length whole → list_all is_digit whole ≡ true → is_digit byte ≡ true
    → joins (whole ++ 46 ∷ []) byte rest ≡ true
point_joins [] byte rest h k d = absurd (omega (arith, h))
point_joins (w ∷ ws) byte rest h k d = joins_part w byte (ws ++ 46 ∷ []) rest (digits_first w ws k) (digit_is_part byte d)

begun_ready : (byte : ℕ) (rest : List ℕ) → is_space byte ≡ false → Ready (byte ∷ []) rest
begun_ready byte rest h = go (is_part byte) refl
  where
    go : (b : Bool) → is_part byte ≡ b → Ready (byte ∷ []) rest
    go true e = form rest (word (byte ∷ []) (omega arith) (and_both (is_part byte) true e refl))
    go false e = form rest (single byte h e)

-- what stands after a piece is cut
started : (byte : ℕ) (rest : List ℕ) → ((now : List ℕ) → Ready now rest → IsCut (now ++ rest) (pieces_from now rest)) → IsCut (byte ∷ rest) (pieces_from (first_piece byte) rest)
started byte rest ih = go (is_space byte) refl
  where
    go : (b : Bool) → is_space byte ≡ b → IsCut (byte ∷ rest) (pieces_from (first_piece byte) rest)
    go true e = rw e (space_front byte e (ih [] (none rest)))
    go false e = rw e (ih (byte ∷ []) (begun_ready byte rest e))

cut_on : (byte : ℕ) (rest : List ℕ) {now : List ℕ} → ((now : List ℕ) → Ready now rest → IsCut (now ++ rest) (pieces_from now rest))
    → Ready now (byte ∷ rest) → joins now byte rest ≡ true → IsCut (now ++ byte ∷ rest) (pieces_from now (byte ∷ rest))
unfolding pieces_from
cut_on byte rest {now = now} ih r e =
    rw e (subst (λ (l : List ℕ). IsCut l (pieces_from (now ++ byte ∷ []) rest)) (append_assoc now (byte ∷ []) rest) (ih (now ++ byte ∷ []) (ready_more byte rest r refl e)))

cut_off : (byte : ℕ) (rest : List ℕ) {now left : List ℕ} → ((now : List ℕ) → Ready now rest → IsCut (now ++ rest) (pieces_from now rest))
    → Ready now left → left ≡ byte ∷ rest → joins now byte rest ≡ false → IsCut (now ++ byte ∷ rest) (unless_empty now ++ pieces_from (first_piece byte) rest)
cut_off byte rest ih (none left) g e = started byte rest ih
cut_off byte rest ih (form left f) g e = piece_first f (not_longer byte rest f e) (started byte rest ih)
cut_off byte rest ih (point whole left h k d) g e =
    let b : is_digit byte ≡ true = subst (λ (l : List ℕ). begins_with_digit l ≡ true) g d in
    absurd (let q : true ≡ false = sym (point_joins whole byte rest h k b) ∙ e in cc)

cut_by : (byte : ℕ) (rest : List ℕ) {now : List ℕ} → ((now : List ℕ) → Ready now rest → IsCut (now ++ rest) (pieces_from now rest))
    → Ready now (byte ∷ rest) → (j : Bool) → joins now byte rest ≡ j → IsCut (now ++ byte ∷ rest) (pieces_from now (byte ∷ rest))
unfolding pieces_from
cut_by byte rest ih r true e = cut_on byte rest ih r e
cut_by byte rest ih r false e = rw e (cut_off byte rest ih r refl e)

cut_last : {now left : List ℕ} → Ready now left → left ≡ [] → IsCut (now ++ []) (unless_empty now)
cut_last (none rest) e = blank [] refl
cut_last {now = now} (form rest f) e = subst (λ (l : List (List ℕ)). IsCut (now ++ []) l) (append-nil (unless_empty now)) (piece_first f (λ n h k. absurd (omega (arith, k))) (blank [] refl))
cut_last (point whole rest h k d) e = absurd (let q : begins_with_digit [] ≡ true = subst (λ (l : List ℕ). begins_with_digit l ≡ true) e d in cc)

cut : (rest : List ℕ) {now : List ℕ} → Ready now rest → IsCut (now ++ rest) (pieces_from now rest)
unfolding pieces_from
cut [] r = cut_last r refl
cut (byte ∷ rest) {now = now} r = cut_by byte rest (λ (piece : List ℕ) (q : Ready piece rest). cut rest q) r (joins now byte rest) refl

pub cut_is_longest : (code : List ℕ) → IsCut code (pieces_of code)
unfolding pieces_of
cut_is_longest code = cut code (none code)
