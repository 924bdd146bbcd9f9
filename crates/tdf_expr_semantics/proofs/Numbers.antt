-- A number in an expression lies within its width.
use Rattle.std.proofs.Common.{◌≡◌, ◌∙◌, ℕ, zero, suc, ◌+◌, ◌*◌, ◌/◌, ◌^◌, ◌≤◌, ◌<◌, Bool, true, false, List, Option, Some, None, Result, Ok, Err, pos, unsigned_abs, length, refl, sym, ap, subst, arith, mul_assoc}
use Rattle.std.proofs.Math.Nat.{mul-le-mul_right, mul-lt-mul_of_pos_right, lt_of_mul-lt-mul_right, pow-le-pow_right, add-mul, mul_comm, div-mul-le_self, lt-div-mul-add}
use Rattle.std.proofs.lemmas.Int.{ints, unsigned_abs-mul}
use Rattle.std.proofs.lemmas.Bool.Decides.{nat_tests}
use Rattle.std.proofs.lemmas.Nat.{pow-add, pow_pos}
use Rattle.std.specs.Prelude.{if◌then◌else◌, nat_lt, ◌&&◌}
use Rattle.std.specs.List.{list_all}
use Rattle.tdf_base.proofs.Api.{number_below}
use Rattle.tdf_base.specs.Digits.{is_digit, number}
use Rattle.tdf_base.specs.Number.{is_short, scaled_count}
use Rattle.tdf_fixed.proofs.Api.{reads_exactly, reads_literals}
use Rattle.tdf_fixed.specs.Literal.{Literal, literal_of, literal_count, literal_parts, literal_exact, signed_number, exact_of, exact_with}
use Rattle.tdf_fixed.specs.Spelling.{IsExact}
use Rattle.tdf_fixed.specs.declared.literals.NumErr.{NumErr}
use Rattle.tdf_fixed.specs.declared.literals.NumErr.TheVariants.{TooManyDigits as HasTooManyDigits}
use Rattle.tdf_fixed.specs.declared.raw.Raw.{Raw}
use Rattle.tdf_expr_semantics.specs.Laws.{IsWithinWidth}
use Rattle.tdf_expr_semantics.specs.Value.{of_digits}
use Rattle.tdf_expr_symbols.specs.Width.{of_number, bits_from}

-- the least count of bits holds the number, where the last one that is tried does
bits_hold : (n bits more : ℕ) → n < 2 ^ (bits + more) → n < 2 ^ bits_from n bits more
unfolding bits_from
bits_hold n bits zero h = subst (λ k. n < 2 ^ k) (omega arith) h
bits_hold n bits (suc more) h = go (nat_lt n (2 ^ bits)) refl (λ (k : n < 2 ^ (bits + 1 + more)). bits_hold n (bits + 1) more k)
  where
    go : (t : Bool) → nat_lt n (2 ^ bits) ≡ t → (n < 2 ^ (bits + 1 + more) → n < 2 ^ bits_from n (bits + 1) more)
        → n < 2 ^ (if t then bits else bits_from n (bits + 1) more)
    go true e next = grind (arith, nat_tests)
    go false e next =
        let same : bits + suc more ≡ bits + 1 + more = omega arith in
        next (subst (λ k. n < 2 ^ k) same h)

abs_signed : (minus : Bool) (n : ℕ) → unsigned_abs (signed_number minus n) ≡ n
abs_signed true n = omega (arith, ints)
abs_signed false n = omega (arith, ints)

-- a number as it is written is below 10 ^ 18
scaled_small : (l : Literal) → is_short l.numeral ≡ true → list_all is_digit l.numeral.whole ≡ true → list_all is_digit l.numeral.fraction ≡ true
    → scaled_count l.numeral < 10 ^ 18 * literal_parts l
scaled_small l short whole fraction =
    let w = number l.numeral.whole in
    let f = number l.numeral.fraction in
    let d = 10 ^ length l.numeral.fraction in
    let few : length l.numeral.whole ≤ 18 = grind (arith, nat_tests) in
    let up : 10 ^ length l.numeral.whole ≤ 10 ^ 18 = pow-le-pow_right (omega arith) few in
    let wb : w + 1 ≤ 10 ^ 18 = omega (arith, number_below l.numeral.whole whole, up) in
    let fb : f < d = number_below l.numeral.fraction fraction in
    let times : (w + 1) * d ≤ 10 ^ 18 * d = mul-le-mul_right d wb in
    let sum : (w + 1) * d ≡ w * d + d = add-mul w 1 d ∙ ap (λ n. w * d + n) (omega arith) in
    omega (arith, fb, times, sum)

exact_small : (l : Literal) (raw : Raw) → is_short l.numeral ≡ true → list_all is_digit l.numeral.whole ≡ true → list_all is_digit l.numeral.fraction ≡ true
    → IsExact l (Ok raw) → unsigned_abs raw.num < 10 ^ 18 * 2 ^ raw.frac
exact_small l raw short whole fraction is =
    let d = literal_parts l in
    let p = 2 ^ raw.frac in
    let a = unsigned_abs raw.num in
    let n = scaled_count l.numeral in
    let both : a * d ≡ n * p = sym (unsigned_abs-mul raw.num (pos d)) ∙ ap unsigned_abs is.0 ∙ unsigned_abs-mul (literal_count l) (pos p)
    ∙ ap (λ k. k * p) (abs_signed l.minus n) in
    let some : 0 < p = pow_pos raw.frac in
    let less : n * p < 10 ^ 18 * d * p = mul-lt-mul_of_pos_right (scaled_small l short whole fraction) some in
    let turned : 10 ^ 18 * d * p ≡ 10 ^ 18 * p * d = mul_assoc (10 ^ 18) d p ∙ ap (λ k. 10 ^ 18 * k) (mul_comm d p) ∙ sym (mul_assoc (10 ^ 18) p d) in
    lt_of_mul-lt-mul_right d (omega (arith, both, less, turned))

and_second : (a b : Bool) → a && b ≡ true → b ≡ true
and_second true b e = e
and_second false b e = absurd cc

number_small : (text : List ℕ) (raw : Raw) → exact_of text ≡ Ok raw → unsigned_abs raw.num < 10 ^ 18 * 2 ^ raw.frac
unfolding exact_of
number_small text raw e = go (literal_of text) refl e
  where
    with_short : (l : Literal) → literal_of text ≡ Some l → (b : Bool) → is_short l.numeral ≡ b
        → (if b then literal_exact l else Err HasTooManyDigits) ≡ Ok raw → unsigned_abs raw.num < 10 ^ 18 * 2 ^ raw.frac
    with_short l is false short e = absurd cc
    with_short l is true short e =
        let spelled = (reads_literals text l).0 is in
        let numeral = spelled.2 in
        exact_small l raw short (and_second (nat_lt 0 (length l.numeral.whole)) (list_all is_digit l.numeral.whole) numeral.whole) numeral.fraction
        (subst (IsExact l) e (reads_exactly l))

    go : (o : Option Literal) → literal_of text ≡ o → exact_with o ≡ Ok raw → unsigned_abs raw.num < 10 ^ 18 * 2 ^ raw.frac
    go None is e = absurd cc
    go (Some l) is e = with_short l is (is_short l.numeral) refl e

-- a number lies within its width
within_raw : (raw : Raw) → unsigned_abs raw.num < 10 ^ 18 * 2 ^ raw.frac → IsWithinWidth (of_number (Ok raw)) raw
within_raw raw small =
    let p = 2 ^ raw.frac in
    let a = unsigned_abs raw.num in
    let some : 0 < p = pow_pos raw.frac in
    let down : a / p * p ≤ a = div-mul-le_self a p in
    let few : a / p < 10 ^ 18 = lt_of_mul-lt-mul_right p (omega (arith, down, small)) in
    let bits = bits_from (a / p) 0 60 in
    let holds : a / p < 2 ^ bits = bits_hold (a / p) 0 60 (omega (arith, few)) in
    let up : a < a / p * p + p = lt-div-mul-add some in
    let more : (a / p + 1) * p ≤ 2 ^ bits * p = mul-le-mul_right p (omega (arith, holds)) in
    let sum : (a / p + 1) * p ≡ a / p * p + p = add-mul (a / p) 1 p ∙ ap (λ n. a / p * p + n) (omega arith) in
    let power : 2 ^ (bits + raw.frac) ≡ 2 ^ bits * p = pow-add 2 bits raw.frac in
    record { frac = refl; within = omega (arith, up, more, sum, power) }

pub within_number : (digits : List ℕ) → IsWithinWidth (of_number (exact_of digits)) (of_digits (exact_of digits))
within_number digits = go (exact_of digits) refl
  where
    go : (r : Result Raw NumErr) → exact_of digits ≡ r → IsWithinWidth (of_number r) (of_digits r)
    go (Ok raw) e = within_raw raw (number_small digits raw e)
    go (Err fault) e = record { frac = refl; within = omega arith }
