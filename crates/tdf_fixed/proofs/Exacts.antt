-- The equations of `least_fraction`, for a loop that tries one count a turn.
use Rattle.std.proofs.Common.{◌≡◌, ℕ, suc, ◌+◌, ◌-◌, ◌*◌, ◌/◌, ◌%◌, ◌^◌, ◌<◌, ◌≤◌, true, false, nat_eq, Some, None, refl, arith}
use Rattle.std.proofs.Math.Nat.{suc-mul, mul-le-mul_right, mul-lt-mul_of_pos_right}
use Rattle.std.proofs.lemmas.Nat.{div_below, pow_pos}
use Rattle.tdf_fixed.specs.Literal.{least_fraction}

pub least_none : (part d n frac : ℕ) → n ≡ 0 → least_fraction part d n frac ≡ None
unfolding least_fraction
least_none part d n frac e = rw e refl

pub least_here : (part d n k : ℕ) → k < n → nat_eq (part * 2 ^ k % d) 0 ≡ true → least_fraction part d (n - k) k ≡ Some k
unfolding least_fraction
least_here part d n k within whole =
    let one : n - k ≡ suc (n - (k + 1)) = omega arith in
    rw (one, whole) refl

pub least_next : (part d n k : ℕ) → k < n → nat_eq (part * 2 ^ k % d) 0 ≡ false → least_fraction part d (n - k) k ≡ least_fraction part d (n - (k + 1)) (k + 1)
unfolding least_fraction
least_next part d n k within broken =
    let one : n - k ≡ suc (n - (k + 1)) = omega arith in
    rw (one, broken) refl

pub ruleset least_lemmas = (least_none, least_here, least_next)

-- an exact value is below 10 ^ 18
pub exact_small : (whole part d frac : ℕ) → whole < 10 ^ 18 → part < d → whole * 2 ^ frac + part * 2 ^ frac / d < 10 ^ 18 * 2 ^ frac
exact_small whole part d frac first second =
    let e = 2 ^ frac in
    let wide : part * e < e * d = omega (arith, mul-lt-mul_of_pos_right second (pow_pos frac)) in
    let quotient : part * e / d < e = div_below (part * e) d e (omega arith) wide in
    let times : suc whole * e ≤ 10 ^ 18 * e = mul-le-mul_right e first in
    omega (arith, quotient, times, suc-mul whole e)
