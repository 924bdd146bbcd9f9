-- Digits without leading zeros are the one text of their number.
use Rattle.std.proofs.Common.{◌≡◌, ◌≢◌, ℕ, suc, ◌+◌, ◌-◌, ◌*◌, ◌/◌, ◌%◌, ◌^◌, ◌<◌, ◌≤◌, true, List, [], ◌∷◌, ◌++◌, length, get_or, false, nat_eq, ⊎_elim, refl, sym, ◌∙◌, arith, length-append, ◌⊎◌}
use Rattle.std.proofs.Math.Nat.{pow-le-pow_right, mul-le-mul_right}
use Rattle.std.proofs.lemmas.Bool.{and_parts, cases_Bool, cases_lt, cases_order, eqb-true}
use Rattle.std.proofs.lemmas.Bool.Decides.{nat_tests}
use Rattle.std.proofs.lemmas.Fmt.{decimal_is_IsNumeral_wide, decimal_by_steps_wide}
use Rattle.std.specs.Fmt.{decimal}
use Rattle.std.specs.List.{list_all}
use Rattle.tdf_fixed.specs.DecimalLaws.{IsWholePart}
use Rattle.tdf_base.specs.Digits.{is_digit, number}
use Rattle.tdf_base.proofs.Api.{own, digit_small, number_below, same_digits}

-- a first digit above 0 gives its place
pub number_above : (ds : List ℕ) → 0 < length ds → list_all is_digit ds ≡ true → get_or ds 0 0 ≢ 48 → 10 ^ (length ds - 1) ≤ number ds
number_above [] some all first = absurd (omega arith)
number_above (c ∷ cs) some all first =
    let both = and_parts (is_digit c) (list_all is_digit cs) all in
    let low = digit_small c both.0 in
    let more : 1 ≤ c - 48 = omega arith in
    let last : suc (length cs) - 1 ≡ length cs = omega arith in
    let times : 1 * 10 ^ length cs ≤ (c - 48) * 10 ^ length cs = mul-le-mul_right (10 ^ length cs) more in
    rw last (omega arith)

-- digits of a number below a power of ten
pub few_whole : (ds : List ℕ) (k : ℕ) → 0 < k → IsWholePart ds → number ds < 10 ^ k → length ds ≤ k
few_whole ds k some h small = ⊎_elim
    (λ (zero_first : nat_eq (get_or ds 0 0) 48 ≡ true).
    let one : length ds ≡ 1 = h.plain (eqb-true (get_or ds 0 0) 48 zero_first) in omega arith)
    (λ (other : nat_eq (get_or ds 0 0) 48 ≡ false).
    let first : get_or ds 0 0 ≢ 48 = grind (arith, nat_tests) in
    let low = number_above ds h.some h.all first in
    ⊎_elim
    (λ (many : k < length ds).
    let within : k ≤ length ds - 1 = omega arith in
    let power : 10 ^ k ≤ 10 ^ (length ds - 1) = pow-le-pow_right (omega arith) within in
    absurd (omega arith))
    (λ (few : length ds ≤ k). few)
    (cases_lt k (length ds)))
    (cases_Bool (nat_eq (get_or ds 0 0) 48))

not_longer : (ds es : List ℕ) → IsWholePart ds → IsWholePart es → number ds ≡ number es → length ds < length es → ⊥
not_longer ds es d e n less =
    let some : 1 ≤ length ds = d.some in
    let first : get_or es 0 0 ≢ 48 = λ h. (let one = e.plain h in absurd (omega arith)) in
    let low = number_above es e.some e.all first in
    let high = number_below ds d.all in
    let within : length ds ≤ length es - 1 = omega arith in
    let power : 10 ^ length ds ≤ 10 ^ (length es - 1) = pow-le-pow_right (omega arith) within in
    omega arith

pub same_whole : (ds es : List ℕ) → IsWholePart ds → IsWholePart es → number ds ≡ number es → ds ≡ es
same_whole ds es d e n = ⊎_elim
    (λ (same : length ds ≡ length es). same_digits ds es same d.all e.all n)
    (λ (other : (length ds < length es) ⊎ (length es < length ds)). ⊎_elim
    (λ (less : length ds < length es). absurd (not_longer ds es d e n less))
    (λ (more : length es < length ds). absurd (not_longer es ds e d (sym n) more))
    other)
    (cases_order (length ds) (length es))

-- no leading zero: a first digit of 0 stands alone, and in front of more digits there is a number above 0
record Plain (n : ℕ) (ds : List ℕ) : Type 0 where
  some : 0 < length ds
  alone : get_or ds 0 0 ≡ 48 → (length ds ≡ 1) × (n ≡ 0)

plain_one : (n : ℕ) → n < 10 → Plain n ((48 + n) ∷ [])
plain_one n small = record { some = omega arith; alone = λ h. (refl, omega arith) }

first_kept : (ds : List ℕ) (c : ℕ) → 0 < length ds → get_or (ds ++ (c ∷ [])) 0 0 ≡ get_or ds 0 0
first_kept [] c some = absurd (omega arith)
first_kept (x ∷ xs) c some = refl

plain_more : (n : ℕ) (ds : List ℕ) → 10 ≤ n → Plain (n / 10) ds → Plain n (ds ++ ((48 + n % 10) ∷ []))
plain_more n ds large h =
    record {
      some = omega (arith, length-append ds ((48 + n % 10) ∷ []));
      alone = λ first. (let none = (h.alone (sym (first_kept ds (48 + n % 10) h.some) ∙ first)).1 in absurd (omega arith));
    }

plain_decimal : (n : ℕ) → n < 10 ^ 64 → Plain n (decimal n)
plain_decimal n small = decimal_by_steps_wide Plain plain_one plain_more n small

pub whole_decimal : (n : ℕ) → n < 10 ^ 64 → IsWholePart (decimal n)
whole_decimal n small =
    let numeral = decimal_is_IsNumeral_wide n small in
    record {
      all = own.from (decimal n) numeral.0.1;
      some = numeral.0.0;
      plain = λ first. ((plain_decimal n small).alone first).0;
    }
