-- Numbers as they are written: those of canonical texts are numbers again, and say the same.
use Rattle.std.proofs.Common.{◌≡◌, ℕ, suc, ◌+◌, ◌-◌, ◌^◌, ◌<◌, ◌≤◌, Bool, true, false, cond, ◌&&◌, not, nat_le, nat_lt, List, [], ◌∷◌, ◌++◌, Option, Some, None, length, take, drop, reverse, refl, sym, ap, subst, ◌∙◌, arith, length-append}
use Rattle.std.proofs.Math.Seq.{take-length}
use Rattle.std.proofs.lemmas.Bool.{and_parts, and_from, eqb-true, le-leb, leb-true, ltb-true, false≢true}
use Rattle.std.proofs.lemmas.Bool.Decides.{nat_tests}
use Rattle.std.proofs.lemmas.List.{append-nil, take-append-le, length-reverse, reverse-reverse, reverse-append, take-append-drop, length-drop}
use Rattle.std.proofs.lemmas.List.Folds.{list_all-append}
use Rattle.std.specs.Fmt.{decimal}
use Rattle.std.specs.List.{list_all, prefix_len, suffix_len, before_first, after_first, position_or_len}
use Rattle.tdf_base.proofs.Api.{after_some, digits_decimal, digits_from, few_decimal, numeral_spells, numeral_spelled}
use Rattle.tdf_base.specs.Digits.{is_digit, are_digits}
use Rattle.tdf_base.specs.Number.{Numeral, numeral_of, is_short, is_short_numeral, is_number}
use Rattle.tdf_base.specs.Spelling as base
use Rattle.tdf_base.specs.Spelling.{SpellsNumeral}
use Rattle.tdf_lang_exprs.specs.Numbers.{is_zero, is_point, without_first_zeros, without_last_zeros, or_zero_digit, after_point, trimmed}

-- zeros in front
strip : List ℕ → List ℕ
strip [] = []
strip (c ∷ cs) = cond (is_zero c) (strip cs) (c ∷ cs)

one_more : (n : ℕ) → 1 + n ≡ suc n
one_more n = omega arith

strip_at : (b : Bool) (c n : ℕ) (cs : List ℕ) → drop n cs ≡ strip cs → drop (cond b (1 + n) 0) (c ∷ cs) ≡ cond b (strip cs) (c ∷ cs)
strip_at true c n cs h = ap (λ k. drop k (c ∷ cs)) (one_more n) ∙ h
strip_at false c n cs h = refl

strip_is : (w : List ℕ) → without_first_zeros w ≡ strip w
unfolding strip
strip_is [] = refl
strip_is (c ∷ cs) = strip_at (is_zero c) c (prefix_len is_zero cs) cs (strip_is cs)

-- what is left begins with no zero, and is an end of the whole
data Stripped : List ℕ → List ℕ → Type 0 where
  nothing : {w : List ℕ} → Stripped w []
  after : (z : List ℕ) (c : ℕ) (cs : List ℕ) → is_zero c ≡ false → Stripped (z ++ c ∷ cs) (c ∷ cs)

stripped_more : (b : ℕ) (w v : List ℕ) → Stripped w v → Stripped (b ∷ w) v
stripped_more b w v nothing = nothing
stripped_more b w v (after z c cs h) = after (b ∷ z) c cs h

stripped_at : (b : Bool) (c : ℕ) (cs : List ℕ) → is_zero c ≡ b → Stripped cs (strip cs) → Stripped (c ∷ cs) (cond b (strip cs) (c ∷ cs))
stripped_at true c cs e h = stripped_more c cs (strip cs) h
stripped_at false c cs e h = after [] c cs e

stripped : (w : List ℕ) → Stripped w (strip w)
unfolding strip
stripped [] = nothing
stripped (c ∷ cs) = stripped_at (is_zero c) c cs refl (stripped cs)

stripped_end : {w v : List ℕ} → Stripped w v → (z : List ℕ) × (w ≡ z ++ v)
stripped_end (nothing {w = w}) = (w, sym (append-nil w))
stripped_end (after z c cs h) = (z, refl)

stripped_twice : {w v : List ℕ} → Stripped w v → strip v ≡ v
unfolding strip
stripped_twice nothing = refl
stripped_twice (after z c cs h) = rw h refl

-- zeros at the end
rstrip : List ℕ → List ℕ
rstrip f = reverse (strip (reverse f))

pub take_left : (a b : List ℕ) (n : ℕ) → n ≡ length a → take n (a ++ b) ≡ a
take_left a b n e = ap (λ k. take k (a ++ b)) e ∙ take-append-le (length a) a b (omega arith) ∙ take-length a

rstrip_is : (f : List ℕ) → without_last_zeros f ≡ rstrip f
unfolding rstrip
rstrip_is f =
    let t = reverse f in
    let k = suffix_len is_zero f in
    let whole : f ≡ reverse (drop k t) ++ reverse (take k t) =
    sym (reverse-reverse f) ∙ ap reverse (sym (take-append-drop k t)) ∙ reverse-append (take k t) (drop k t) in
    let size : length f - k ≡ length (reverse (drop k t)) =
    sym (length-reverse (drop k t) ∙ length-drop k t ∙ ap (λ n. n - k) (length-reverse f)) in
    ap (λ u. take (length f - k) u) whole ∙ take_left (reverse (drop k t)) (reverse (take k t)) (length f - k) size ∙ ap reverse (strip_is t)

rstrip_twice : (f : List ℕ) → rstrip (rstrip f) ≡ rstrip f
unfolding rstrip
rstrip_twice f = ap (λ u. reverse (strip u)) (reverse-reverse (strip (reverse f))) ∙ ap reverse (stripped_twice (stripped (reverse f)))

rstrip_front : (f : List ℕ) → (z : List ℕ) × (f ≡ rstrip f ++ z)
unfolding rstrip
rstrip_front f =
    let e = stripped_end (stripped (reverse f)) in
    (reverse e.0, sym (reverse-reverse f) ∙ ap reverse e.1 ∙ reverse-append e.0 (strip (reverse f)))

-- the two sides of a point
abbrev pub no_point : ℕ → Bool
no_point c = not (is_point c)

no_point_zero : no_point 48 ≡ true
no_point_zero = refl

data Sides : List ℕ → Type 0 where
  one_side : (w : List ℕ) → list_all no_point w ≡ true → Sides w
  two_sides : (w f : List ℕ) → list_all no_point w ≡ true → Sides (w ++ 46 ∷ f)

sides_more : (c : ℕ) (t : List ℕ) → no_point c ≡ true → Sides t → Sides (c ∷ t)
sides_more c t e (one_side w h) = one_side (c ∷ w) (and_from (no_point c) (list_all no_point w) e h)
sides_more c t e (two_sides w f h) = two_sides (c ∷ w) f (and_from (no_point c) (list_all no_point w) e h)

sides_at : (b : Bool) (c : ℕ) (t : List ℕ) → is_point c ≡ b → Sides t → Sides (c ∷ t)
sides_at true c t e h = let point : 46 ≡ c = sym (eqb-true c 46 e) in subst (λ k. Sides (k ∷ t)) point (two_sides [] t refl)
sides_at false c t e h = sides_more c t (ap not e) h

sides : (t : List ℕ) → Sides t
sides [] = one_side [] refl
sides (c ∷ t) = sides_at (is_point c) c t refl (sides t)

pub count_one : (w : List ℕ) → list_all no_point w ≡ true → position_or_len is_point w ≡ length w
count_one [] h = refl
count_one (c ∷ w) h = let e = and_parts (no_point c) (list_all no_point w) h in rw e.0 (ap (λ n. 1 + n) (count_one w e.1) ∙ one_more (length w))

count_two : (w f : List ℕ) → list_all no_point w ≡ true → position_or_len is_point (w ++ 46 ∷ f) ≡ length w
count_two [] f h = refl
count_two (c ∷ w) f h = let e = and_parts (no_point c) (list_all no_point w) h in rw e.0 (ap (λ n. 1 + n) (count_two w f e.1) ∙ one_more (length w))

drop_past : (w f : List ℕ) (c : ℕ) → drop (length w + 1) (w ++ c ∷ f) ≡ f
drop_past [] f c = refl
drop_past (d ∷ w) f c = let e : suc (length w) + 1 ≡ suc (length w + 1) = omega arith in ap (λ k. drop k (d ∷ (w ++ c ∷ f))) e ∙ drop_past w f c

drop_over : (w : List ℕ) → drop (length w + 1) w ≡ []
drop_over [] = refl
drop_over (d ∷ w) = let e : suc (length w) + 1 ≡ suc (length w + 1) = omega arith in ap (λ k. drop k (d ∷ w)) e ∙ drop_over w

first_one : (w : List ℕ) → list_all no_point w ≡ true → before_first is_point w ≡ w
first_one w h = ap (λ n. take n w) (count_one w h) ∙ take-length w

after_one : (w : List ℕ) → list_all no_point w ≡ true → after_first is_point w ≡ []
after_one w h = ap (λ n. drop (n + 1) w) (count_one w h) ∙ drop_over w

first_two : (w f : List ℕ) → list_all no_point w ≡ true → before_first is_point (w ++ 46 ∷ f) ≡ w
first_two w f h = ap (λ n. take n (w ++ 46 ∷ f)) (count_two w f h) ∙ take_left w (46 ∷ f) (length w) refl

after_two : (w f : List ℕ) → list_all no_point w ≡ true → after_first is_point (w ++ 46 ∷ f) ≡ f
after_two w f h = ap (λ n. drop (n + 1) (w ++ 46 ∷ f)) (count_two w f h) ∙ drop_past w f 46

-- the number without needless zeros
whole_part : List ℕ → List ℕ
whole_part w = or_zero_digit (strip w)

trimmed_one : (w : List ℕ) → list_all no_point w ≡ true → trimmed w ≡ whole_part w
unfolding trimmed whole_part
trimmed_one w h =
    ap (λ u. or_zero_digit (without_first_zeros u) ++ after_point (without_last_zeros (after_first is_point w))) (first_one w h)
    ∙ ap (λ u. or_zero_digit u ++ after_point (without_last_zeros (after_first is_point w))) (strip_is w)
    ∙ ap (λ u. or_zero_digit (strip w) ++ after_point (without_last_zeros u)) (after_one w h)
    ∙ append-nil (or_zero_digit (strip w))

trimmed_two : (w f : List ℕ) → list_all no_point w ≡ true → trimmed (w ++ 46 ∷ f) ≡ whole_part w ++ after_point (rstrip f)
unfolding trimmed whole_part
trimmed_two w f h =
    ap (λ u. or_zero_digit (without_first_zeros u) ++ after_point (without_last_zeros (after_first is_point (w ++ 46 ∷ f)))) (first_two w f h)
    ∙ ap (λ u. or_zero_digit u ++ after_point (without_last_zeros (after_first is_point (w ++ 46 ∷ f)))) (strip_is w)
    ∙ ap (λ u. or_zero_digit (strip w) ++ after_point (without_last_zeros u)) (after_two w f h)
    ∙ ap (λ u. or_zero_digit (strip w) ++ after_point u) (rstrip_is f)

whole_at : (w v : List ℕ) → Stripped w v → or_zero_digit (strip (or_zero_digit v)) ≡ or_zero_digit v
unfolding strip
whole_at w [] h = refl
whole_at w (c ∷ cs) h = ap or_zero_digit (stripped_twice h)

whole_twice : (w : List ℕ) → whole_part (whole_part w) ≡ whole_part w
unfolding whole_part
whole_twice w = whole_at w (strip w) (stripped w)

strip_all : (p : ℕ → Bool) (w : List ℕ) → list_all p w ≡ true → list_all p (strip w) ≡ true
strip_all p w h =
    let e = stripped_end (stripped w) in
    let both : (list_all p e.0 && list_all p (strip w)) ≡ true = sym (ap (list_all p) e.1 ∙ list_all-append p e.0 (strip w)) ∙ h in
    (and_parts (list_all p e.0) (list_all p (strip w)) both).1

or_all : (p : ℕ → Bool) (v : List ℕ) → p 48 ≡ true → list_all p v ≡ true → list_all p (or_zero_digit v) ≡ true
or_all p [] e h = and_from (p 48) true e refl
or_all p (c ∷ cs) e h = h

whole_all : (p : ℕ → Bool) (w : List ℕ) → p 48 ≡ true → list_all p w ≡ true → list_all p (whole_part w) ≡ true
unfolding whole_part
whole_all p w e h = or_all p (strip w) e (strip_all p w h)

front_all : (p : ℕ → Bool) (f : List ℕ) → list_all p f ≡ true → list_all p (rstrip f) ≡ true
front_all p f h =
    let e = rstrip_front f in
    let both : (list_all p (rstrip f) && list_all p e.0) ≡ true = sym (ap (list_all p) e.1 ∙ list_all-append p (rstrip f) e.0) ∙ h in
    (and_parts (list_all p (rstrip f)) (list_all p e.0) both).0

or_size : (v : List ℕ) (n : ℕ) → 1 ≤ n → length v ≤ n → (1 ≤ length (or_zero_digit v)) × (length (or_zero_digit v) ≤ n)
or_size [] n h k = (omega arith, h)
or_size (c ∷ cs) n h k = (omega arith, k)

whole_size : (w : List ℕ) (n : ℕ) → 1 ≤ n → length w ≤ n → (1 ≤ length (whole_part w)) × (length (whole_part w) ≤ n)
unfolding whole_part
whole_size w n h k =
    let e = stripped_end (stripped w) in
    or_size (strip w) n h (omega (arith, k, ap length e.1, length-append e.0 (strip w)))

front_size : (f : List ℕ) → length (rstrip f) ≤ length f
front_size f = let e = rstrip_front f in omega (arith, ap length e.1, length-append (rstrip f) e.0)

again_at : (w r : List ℕ) → list_all no_point w ≡ true → rstrip r ≡ r → trimmed (whole_part w ++ after_point r) ≡ whole_part w ++ after_point r
again_at w [] h e =
    let v = whole_part w in
    ap trimmed (append-nil v) ∙ trimmed_one v (whole_all no_point w no_point_zero h) ∙ whole_twice w ∙ sym (append-nil v)
again_at w (c ∷ cs) h e =
    let v = whole_part w in
    trimmed_two v (c ∷ cs) (whole_all no_point w no_point_zero h)
    ∙ ap (λ u. u ++ after_point (rstrip (c ∷ cs))) (whole_twice w)
    ∙ ap (λ u. v ++ after_point u) e

-- a number without needless zeros has none
twice_at : {t : List ℕ} → Sides t → trimmed (trimmed t) ≡ trimmed t
twice_at (one_side w h) =
    ap trimmed (trimmed_one w h) ∙ trimmed_one (whole_part w) (whole_all no_point w no_point_zero h) ∙ whole_twice w ∙ sym (trimmed_one w h)
twice_at (two_sides w f h) =
    ap trimmed (trimmed_two w f h) ∙ again_at w (rstrip f) h (rstrip_twice f) ∙ sym (trimmed_two w f h)

pub trimmed_twice : (t : List ℕ) → trimmed (trimmed t) ≡ trimmed t
trimmed_twice t = twice_at (sides t)

-- the form of a number
pub record Side (d : List ℕ) : Type 0 where
  pub digits : list_all is_digit d ≡ true
  pub some : 1 ≤ length d
  pub few : length d ≤ 18

side_whole : (w : List ℕ) → Side w → Side (whole_part w)
side_whole w s =
    let size = whole_size w 18 (omega arith) s.few in
    record { digits = whole_all is_digit w refl s.digits; some = size.0; few = size.1 }

digit_no_point : (c : ℕ) → is_digit c ≡ true → no_point c ≡ true
digit_no_point c h = grind (arith, nat_tests)

pub digits_no_point : (w : List ℕ) → list_all is_digit w ≡ true → list_all no_point w ≡ true
digits_no_point [] h = refl
digits_no_point (c ∷ w) h =
    let e = and_parts (is_digit c) (list_all is_digit w) h in
    and_from (no_point c) (list_all no_point w) (digit_no_point c e.0) (digits_no_point w e.1)

-- digits, or digits, a point and digits
pub data Written : List ℕ → Type 0 where
  whole_number : (w : List ℕ) → Side w → Written w
  with_fraction : (w f : List ℕ) → Side w → Side f → Written (w ++ 46 ∷ f)

side_digits : (d : List ℕ) → Side d → are_digits d ≡ true
side_digits d s = digits_from d s.some s.digits

side_short : (d : List ℕ) → Side d → nat_le (length d) 18 ≡ true
side_short d s = le-leb (length d) 18 s.few

-- a numeral that is spelled so is a number
spelled_number : (t : List ℕ) (n : Numeral) → SpellsNumeral t n → is_short n ≡ true → is_number t ≡ true
unfolding is_number
spelled_number t n d h = ap is_short_numeral (numeral_spelled t n d) ∙ h

pub written_number : {t : List ℕ} → Written t → is_number t ≡ true
written_number (whole_number w s) =
    spelled_number w (record { whole = w; fraction = [] }) (record { whole = side_digits w s; fraction = refl; is = sym (append-nil w) })
    (and_from (nat_le (length w) 18) true (side_short w s) refl)
written_number (with_fraction w f s u) =
    spelled_number (w ++ 46 ∷ f) (record { whole = w; fraction = f })
    (record { whole = side_digits w s; fraction = u.digits; is = ap (λ k. w ++ k) (sym (after_some f (side_digits f u))) })
    (and_from (nat_le (length w) 18) (nat_le (length f) 18) (side_short w s) (side_short f u))

side_of : (d : List ℕ) → are_digits d ≡ true → nat_le (length d) 18 ≡ true → Side d
side_of d h k =
    let both = and_parts (nat_lt 0 (length d)) (list_all is_digit d) h in
    record { digits = both.1; some = ltb-true 0 (length d) both.0; few = leb-true (length d) 18 k }

written_at : (t w f : List ℕ) → are_digits w ≡ true → list_all is_digit f ≡ true → t ≡ w ++ base.after_point f → nat_le (length w) 18 ≡ true → nat_le (length f) 18 ≡ true → Written t
written_at t w [] h g e k l = subst Written (sym (e ∙ append-nil w)) (whole_number w (side_of w h k))
written_at t w (c ∷ cs) h g e k l =
    subst Written (sym e) (with_fraction w (c ∷ cs) (side_of w h k) (record { digits = g; some = omega arith; few = leb-true (length (c ∷ cs)) 18 l }))

number_at : (t : List ℕ) (o : Option Numeral) → numeral_of t ≡ o → is_short_numeral o ≡ true → Written t
number_at t None e h = absurd (false≢true h)
number_at t (Some n) e h =
    let d = numeral_spells t n e in
    let both = and_parts (nat_le (length n.whole) 18) (nat_le (length n.fraction) 18) h in
    written_at t n.whole n.fraction d.whole d.fraction d.is both.0 both.1

pub number_written : (t : List ℕ) → is_number t ≡ true → Written t
unfolding is_number
number_written t e = number_at t (numeral_of t) refl e

fraction_at : (v r : List ℕ) → Side v → list_all is_digit r ≡ true → length r ≤ 18 → Written (v ++ after_point r)
fraction_at v [] s h k = subst Written (sym (append-nil v)) (whole_number v s)
fraction_at v (c ∷ cs) s h k = with_fraction v (c ∷ cs) s (record { digits = h; some = omega arith; few = k })

trimmed_at : {t : List ℕ} → Written t → Written (trimmed t)
trimmed_at (whole_number w s) = subst Written (sym (trimmed_one w (digits_no_point w s.digits))) (whole_number (whole_part w) (side_whole w s))
trimmed_at (with_fraction w f s u) =
    let few = u.few in
    let size = front_size f in
    subst Written (sym (trimmed_two w f (digits_no_point w s.digits)))
    (fraction_at (whole_part w) (rstrip f) (side_whole w s) (front_all is_digit f u.digits) (omega arith))

pub trimmed_written : (t : List ℕ) → is_number t ≡ true → Written (trimmed t)
trimmed_written t e = trimmed_at (number_written t e)

pub decimal_side : (n : ℕ) → n < 10 ^ 18 → Side (decimal n)
decimal_side n h =
    let d = digits_decimal n (omega arith) in
    let both = and_parts (nat_lt 0 (length (decimal n))) (list_all is_digit (decimal n)) d in
    record { digits = both.1; some = ltb-true 0 (length (decimal n)) both.0; few = few_decimal n h }

pub trimmed_zero : trimmed (48 ∷ []) ≡ 48 ∷ []
unfolding trimmed
trimmed_zero = refl
