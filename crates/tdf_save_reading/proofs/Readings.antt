-- Numbers are read exactly.
use Rattle.std.proofs.Common.{◌≡◌, ℕ, suc, ◌+◌, ◌<◌, ◌≤◌, ◌^◌, ℤ, pos, negsuc, Bool, true, false, ◌||◌, nat_eq, List, [], ◌∷◌, ◌++◌, length, take, drop, refl, ◌∙◌, sym, ap, subst, arith, append-nil, decimal, Option, Some, None, not}
use Rattle.std.proofs.lemmas.Bool.{eqb-true}
use Rattle.std.proofs.lemmas.List.{take_all, drop_all, take_rest, take-append-drop}
use Rattle.std.proofs.lemmas.List.Sums.{prefix_len-le-length}
use Rattle.std.specs.Fmt.{signed_decimal}
use Rattle.std.specs.List.{before_first, position_or_len, list_any}
use Rattle.tdf_save.proofs.Api.{cancel, count64_one, cut_at_stop, no_dash}
use Rattle.tdf_save.specs.Members.{IsCount32, IsCount64, IsNum}
use Rattle.tdf_save.specs.machine.Pieces.{Stops, is_stop, begins_with_stop}
use Rattle.tdf_save_reading.specs.machine.Pieces.{IsPiece, NoPiece}

pub short_word : (xs : List ℕ) → position_or_len is_stop xs ≤ length xs
short_word xs = prefix_len-le-length (λ x. not (is_stop x)) xs

pub ruleset cut_laws = (short_word, append-nil, take_all, drop_all, take_rest)

-- ---- a word, and what comes after it

first_more : (byte : ℕ) (rest : List ℕ) → is_stop byte ≡ false → before_first is_stop (byte ∷ rest) ≡ byte ∷ before_first is_stop rest
first_more byte rest e = rw e (let f : 1 + position_or_len is_stop rest ≡ suc (position_or_len is_stop rest) = omega arith in rw f refl)

first_here : (byte : ℕ) (rest : List ℕ) → is_stop byte ≡ true → before_first is_stop (byte ∷ rest) ≡ []
first_here byte rest e = rw e refl

drop_here : (c : ℕ) (text : List ℕ) → is_stop c ≡ true → drop (position_or_len is_stop (c ∷ text)) (c ∷ text) ≡ c ∷ text
drop_here c text e = rw e refl

drop_more : (c : ℕ) (text : List ℕ) → is_stop c ≡ false → drop (position_or_len is_stop (c ∷ text)) (c ∷ text) ≡ drop (position_or_len is_stop text) text
drop_more c text e = rw e (let f : 1 + position_or_len is_stop text ≡ suc (position_or_len is_stop text) = omega arith in rw f refl)

-- what a text is cut into
pub record IsCut (text word rest : List ℕ) : Type 0 where
  pub is : text ≡ word ++ rest
  pub plain : list_any is_stop word ≡ false
  pub stop : 0 < length rest → begins_with_stop rest ≡ true

abbrev word_of : List ℕ → List ℕ
word_of text = before_first is_stop text

abbrev rest_of : List ℕ → List ℕ
rest_of text = drop (position_or_len is_stop text) text

cut_by : (c : ℕ) (text : List ℕ) (b : Bool) → is_stop c ≡ b → IsCut text (word_of text) (rest_of text) → IsCut (c ∷ text) (word_of (c ∷ text)) (rest_of (c ∷ text))
cut_by c text true e h = rw (first_here c text e, drop_here c text e) (record { is = refl; plain = refl; stop = λ _. e })
cut_by c text false e h = rw (first_more c text e, drop_more c text e) (record { is = ap (λ t. c ∷ t) h.is; plain = rw e h.plain; stop = h.stop })

cut_here : (text : List ℕ) → IsCut text (word_of text) (rest_of text)
cut_here [] = record { is = refl; plain = refl; stop = λ h. absurd (omega (arith, h)) }
cut_here (c ∷ text) = cut_by c text (is_stop c) refl (cut_here text)

pub cut_is : (text word rest : List ℕ) → word ≡ word_of text → rest ≡ rest_of text → IsCut text word rest
cut_is text word rest a b = rw (a, b) (cut_here text)

-- ---- a word that is read

pub piece_of : {V : Type 0} (word : V → List ℕ) (fits : V → Type 0) (text first rest : List ℕ) (v : V) → IsCut text first rest → 0 < length rest → fits v → first ≡ word v
    → IsPiece word fits Stops text v rest
piece_of word fits text first rest v cut some f is = record { fit = f; end = cut.stop some; is = cut.is ∙ ap (λ x. x ++ rest) is }

stops_some : (r : List ℕ) → begins_with_stop r ≡ true → 0 < length r
stops_some [] h = absurd (let f : true ≡ false = sym h in cc)
stops_some (c ∷ r) h = omega arith

-- the word of a piece is the one that was cut
pub word_is : {V : Type 0} (word : V → List ℕ) (fits : V → Type 0) → ((v : V) → fits v → list_any is_stop (word v) ≡ false)
    → (text first rest : List ℕ) (v : V) (r : List ℕ) → IsCut text first rest → IsPiece word fits Stops text v r → 0 < length rest → first ≡ word v
word_is word fits plain text first rest v r cut h some =
    (cut_at_stop first (word v) rest r cut.plain (plain v h.fit) (cut.stop some) h.end (sym cut.is ∙ h.is)).0

or_true : (b : Bool) → (b || true) ≡ true
or_true true = refl
or_true false = refl

any_stop : (xs : List ℕ) (r : List ℕ) → begins_with_stop r ≡ true → list_any is_stop (xs ++ r) ≡ true
any_stop [] [] h = absurd (let f : true ≡ false = sym h in cc)
any_stop [] (c ∷ r) h = rw h refl
any_stop (x ∷ xs) r h = rw (any_stop xs r h) (or_true (is_stop x))

length_none : {A : Type 0} (xs : List A) → length xs ≡ 0 → xs ≡ []
length_none [] h = refl
length_none (x ∷ xs) h = absurd (omega (arith, h))

-- where nothing comes after the word there is no piece
pub none_short : {V : Type 0} (word : V → List ℕ) (fits : V → Type 0) (text first rest : List ℕ) → IsCut text first rest → length rest ≡ 0 → NoPiece word fits Stops text
none_short word fits text first rest cut none = λ v r h.
    let e : rest ≡ [] = length_none rest none in
    let all : text ≡ first = cut.is ∙ ap (λ x. first ++ x) e ∙ append-nil first in
    let f : list_any is_stop text ≡ false = ap (list_any is_stop) all ∙ cut.plain in
    let g : list_any is_stop text ≡ true = ap (list_any is_stop) h.is ∙ any_stop (word v) r h.end in
    let apart : true ≡ false = sym g ∙ f in
    cc

-- ---- lengths

pub is_none : (xs : List ℕ) (b : Bool) → b ≡ (nat_eq (length xs) 0) → b ≡ true → length xs ≡ 0
is_none xs b e h = eqb-true (length xs) 0 (sym e ∙ h)

pub is_some : (xs : List ℕ) (b : Bool) → b ≡ (nat_eq (length xs) 0) → b ≡ false → 0 < length xs
is_some [] b e h = absurd (let f : true ≡ false = sym e ∙ h in cc)
is_some (x ∷ xs) b e h = omega arith

pub never : {V : Type 0} (o : Option V) (v : V) → o ≡ None → o ≡ Some v → ⊥
never o v a b = let f : None ≡ Some v = sym a ∙ b in cc

-- a word with a dash is that of a number below 0
pub below_zero : (word digits : List ℕ) (o : Option ℤ) → word ≡ 45 ∷ digits → ((k : ℕ) → k < 2 ^ 63 → digits ≡ decimal (suc k) → o ≡ Some (negsuc k))
    → (n : ℤ) → IsNum n → word ≡ signed_decimal n → o ≡ Some n
below_zero word digits o is always (pos n) h e = absurd (no_dash n digits h (sym e ∙ is))
below_zero word digits o is always (negsuc k) h e =
    let f : digits ≡ decimal (suc k) = cancel (45 ∷ []) digits (decimal (suc k)) (sym is ∙ e) in
    always k h f

-- ---- numbers of 32 bits

wider : (text : List ℕ) (v : ℕ) (r : List ℕ) → IsPiece decimal IsCount32 Stops text v r → IsPiece decimal IsCount64 Stops text v r
wider text v r h = record { fit = omega (arith, h.fit); end = h.end; is = h.is }

pub no_rate : (text : List ℕ) → NoPiece decimal IsCount64 Stops text → NoPiece decimal IsCount32 Stops text
no_rate text none = λ v r h. none v r (wider text v r h)

pub rate_large : (text : List ℕ) (n : ℕ) (rest : List ℕ) → IsPiece decimal IsCount64 Stops text n rest → 4294967295 < n → NoPiece decimal IsCount32 Stops text
rate_large text n rest p large = λ v r h.
    let w = wider text v r h in
    let same = (count64_one.only n v rest r p.fit w.fit p.end w.end (sym p.is ∙ w.is)).0 in
    omega (arith, large, h.fit, same)
