-- Cells are told exactly.
use Rattle.std.proofs.Common.{◌≡◌, ◌≢◌, ℕ, ◌<◌, ◌≤◌, Bool, true, false, not, nat_eq, List, [], ◌∷◌, ◌++◌, length, refl, arith, sym, ap, Some, None, Option, codes, ⊎_elim, slice_index}
use Rattle.std.proofs.lemmas.Bool.{eqb-true, cases_Bool, and_parts}
use Rattle.std.proofs.lemmas.Bool.Decides.{nat_tests}
use Rattle.std.specs.Cmp.Lexicographic.{pointwise}
use Rattle.std.specs.List.{list_all}
use Rattle.tdf_base.proofs.Api.{numeral_spells, numeral_spelled, all_of, digit_small}
use Rattle.tdf_base.specs.Digits.{is_digit, are_digits}
use Rattle.tdf_base.specs.Number.{Numeral, numeral_of}
use Rattle.tdf_base.specs.Spelling.{after_point}
use Rattle.tdf_fixed.specs.DecimalLaws.{EndsWell}
use Rattle.tdf_tables.specs.Cells.{IsCell, IsPlain, SpellsPlain, Unknown, Number, Negative}
use Rattle.tdf_tables.specs.machine.Scan.{has_leading_zero, ends_in_zero, is_plain, is_plain_one, is_decimal, is_negative, is_cell}

-- ---- plain numerals

pub digit_from : (c : ℕ) → is_digit c ≡ true → 48 ≤ c
digit_from c h = let low = digit_small c h in grind (arith, nat_tests)

ends_sound : (ds : List ℕ) → list_all is_digit ds ≡ true → ends_in_zero ds ≡ false → EndsWell ds
unfolding ends_in_zero
ends_sound [] all h = tt
ends_sound (c ∷ []) all h =
    let both = and_parts (is_digit c) true all in
    let low : 48 ≤ c = digit_from c both.0 in
    let other : c ≢ 48 = grind (arith, nat_tests) in
    omega arith
ends_sound (c ∷ (e ∷ cs)) all h =
    let both = and_parts (is_digit c) (list_all is_digit (e ∷ cs)) all in
    ends_sound (e ∷ cs) both.1 h

ends_complete : (ds : List ℕ) → EndsWell ds → ends_in_zero ds ≡ false
unfolding ends_in_zero
ends_complete [] h = refl
ends_complete (c ∷ []) h = let more : 48 < c = h in grind (arith, nat_tests)
ends_complete (c ∷ (e ∷ cs)) h = ends_complete (e ∷ cs) h

not_true : (b : Bool) → not b ≡ true → b ≡ false
not_true true h = absurd (cc)
not_true false h = refl

pub plain_sound : (n : Numeral) → are_digits n.whole ≡ true → list_all is_digit n.fraction ≡ true → is_plain n ≡ true → IsPlain n
plain_sound n whole fraction h =
    let parts = and_parts (not (has_leading_zero n.whole)) (not (ends_in_zero n.fraction)) h in
    let lead : has_leading_zero n.whole ≡ false = not_true (has_leading_zero n.whole) parts.0 in
    let some : 0 < length n.whole = grind (arith, nat_tests) in
    record {
      whole = record {
        all = all_of n.whole whole;
        some = some;
        plain = λ zero_first. (grind (arith, nat_tests));
      };
      ends = ends_sound n.fraction fraction (not_true (ends_in_zero n.fraction) parts.1);
    }

pub plain_complete : (n : Numeral) → IsPlain n → is_plain n ≡ true
plain_complete n h =
    let ends : ends_in_zero n.fraction ≡ false = ends_complete n.fraction h.ends in
    let lead : has_leading_zero n.whole ≡ false = ⊎_elim
    (λ (one : nat_eq (slice_index n.whole 0) 48 ≡ true).
    let first : slice_index n.whole 0 ≡ 48 = eqb-true (slice_index n.whole 0) 48 one in
    let alone : length n.whole ≡ 1 = h.whole.plain first in
    grind (arith, nat_tests))
    (λ (other : nat_eq (slice_index n.whole 0) 48 ≡ false). grind (arith, nat_tests))
    (cases_Bool (nat_eq (slice_index n.whole 0) 48)) in
    rw (lead, ends) refl

-- ---- decimals

decimal_by : (text : List ℕ) (n : Option Numeral) → numeral_of text ≡ n → is_plain_one n ≡ true → SpellsPlain text
decimal_by text None e h = absurd (cc)
decimal_by text (Some n) e h =
    let spells = numeral_spells text n e in
    record { numeral = n; spells = spells; plain = plain_sound n spells.whole spells.fraction h }

pub decimal_sound : (text : List ℕ) → is_decimal text ≡ true → SpellsPlain text
unfolding is_decimal
decimal_sound text h = decimal_by text (numeral_of text) refl h

pub decimal_complete : (text : List ℕ) → SpellsPlain text → is_decimal text ≡ true
unfolding is_decimal
decimal_complete text h =
    let e : numeral_of text ≡ Some h.numeral = numeral_spelled text h.numeral h.spells in
    rw e (plain_complete h.numeral h.plain)

-- ---- cells

zero_text : List ℕ
zero_text = codes "0"

is_zero_by : (text : List ℕ) → pointwise nat_eq text (codes "0") ≡ true → text ≡ codes "0"
is_zero_by [] h = absurd (cc)
is_zero_by (c ∷ []) h =
    let parts = and_parts (nat_eq c 48) true h in
    ap (λ x. x ∷ []) (eqb-true c 48 parts.0)
is_zero_by (c ∷ (e ∷ cs)) h =
    let parts = and_parts (nat_eq c 48) false h in absurd (let f : false ≡ true = parts.1 in cc)

not_zero_by : (text : List ℕ) → text ≢ codes "0" → pointwise nat_eq text (codes "0") ≡ false
not_zero_by text h = ⊎_elim
    (λ (same : pointwise nat_eq text (codes "0") ≡ true). absurd (h (is_zero_by text same)))
    (λ (other : pointwise nat_eq text (codes "0") ≡ false). other)
    (cases_Bool (pointwise nat_eq text (codes "0")))

zero_is : pointwise nat_eq (codes "0") (codes "0") ≡ true
zero_is = refl

negative_sound : (text : List ℕ) → is_negative text ≡ true → IsCell (45 ∷ text)
negative_sound text h =
    let parts = and_parts (not (pointwise nat_eq text (codes "0"))) (is_decimal text) h in
    let other : pointwise nat_eq text (codes "0") ≡ false = not_true (pointwise nat_eq text (codes "0")) parts.0 in
    Negative (decimal_sound text parts.1) (λ e. (let same : pointwise nat_eq text (codes "0") ≡ true = rw e zero_is in cc))

negative_complete : (text : List ℕ) → SpellsPlain text → text ≢ codes "0" → is_negative text ≡ true
negative_complete text h other = rw (not_zero_by text other, decimal_complete text h) refl

star_by : (c : ℕ) (cs : List ℕ) → c ≡ 42 → nat_eq (length cs) 0 ≡ true → IsCell (c ∷ cs)
star_by c [] e h = rw e Unknown
star_by c (d ∷ cs) e h = let f : length (d ∷ cs) ≡ 0 = eqb-true (length (d ∷ cs)) 0 h in absurd (omega (arith, f))

pub cell_sound : (text : List ℕ) → is_cell text ≡ true → IsCell text
unfolding is_cell
cell_sound [] h = absurd (cc)
cell_sound (c ∷ cs) h = ⊎_elim
    (λ (star : nat_eq c 42 ≡ true). star_by c cs (eqb-true c 42 star) (rw star at h))
    (λ (no_star : nat_eq c 42 ≡ false). ⊎_elim
    (λ (minus : nat_eq c 45 ≡ true).
    let e : c ≡ 45 = eqb-true c 45 minus in
    let g : is_negative cs ≡ true = rw (no_star, minus) at h in
    rw e (negative_sound cs g))
    (λ (plus : nat_eq c 45 ≡ false).
    let g : is_decimal (c ∷ cs) ≡ true = rw (no_star, plus) at h in
    Number (decimal_sound (c ∷ cs) g))
    (cases_Bool (nat_eq c 45)))
    (cases_Bool (nat_eq c 42))

-- the first byte of a number is a digit
first_of : (ds rest : List ℕ) (c : ℕ) (cs : List ℕ) → ds ++ rest ≡ c ∷ cs → are_digits ds ≡ true → is_digit c ≡ true
first_of [] rest c cs e h = absurd (cc)
first_of (d ∷ ds) rest c cs e h =
    let same : d ≡ c = cc in
    let both = and_parts (is_digit d) (list_all is_digit ds) (all_of (d ∷ ds) h) in
    rw (sym same) both.0

first_digit : (c : ℕ) (cs : List ℕ) → SpellsPlain (c ∷ cs) → is_digit c ≡ true
first_digit c cs h = first_of (h.numeral.whole) (after_point h.numeral.fraction) c cs (sym h.spells.is) h.spells.whole

none_of : (ds rest : List ℕ) → ds ++ rest ≡ [] → are_digits ds ≡ true → ⊥
none_of [] rest e h = cc
none_of (d ∷ ds) rest e h = cc

no_number : SpellsPlain [] → ⊥
no_number h = none_of h.numeral.whole (after_point h.numeral.fraction) (sym h.spells.is) h.spells.whole

number_complete : (text : List ℕ) → SpellsPlain text → is_cell text ≡ true
unfolding is_cell
number_complete [] h = absurd (no_number h)
number_complete (c ∷ cs) h =
    let d : is_digit c ≡ true = first_digit c cs h in
    let low : 48 ≤ c = digit_from c d in
    let a : nat_eq c 42 ≡ false = grind (arith, nat_tests) in
    let b : nat_eq c 45 ≡ false = grind (arith, nat_tests) in
    rw (a, b) (decimal_complete (c ∷ cs) h)

star_is : is_cell (codes "*") ≡ true
unfolding is_cell
star_is = refl

minus_is : (text : List ℕ) → SpellsPlain text → text ≢ codes "0" → is_cell (45 ∷ text) ≡ true
unfolding is_cell
minus_is text h other = negative_complete text h other

pub cell_complete : (text : List ℕ) → IsCell text → is_cell text ≡ true
cell_complete text Unknown = star_is
cell_complete text (Number h) = number_complete text h
cell_complete text (Negative {text = rest} h other) = minus_is rest h other
