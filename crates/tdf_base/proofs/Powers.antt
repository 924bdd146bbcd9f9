-- Bounds of powers.
use Rattle.std.proofs.Common.{ℕ, ◌^◌, ◌≤◌, ◌<◌, ◌≡◌, ◌+◌, ◌-◌, ◌*◌, ◌∙◌, ap, sym, arith}
use Rattle.std.proofs.Math.Nat.{pow-le-pow_right, one-le-pow, mul-le-mul_right}
use Rattle.std.proofs.lemmas.Nat.{pow-add}

pub power_of_ten : (k : ℕ) → k ≤ 18 → 10 ^ k ≤ 10 ^ 18
power_of_ten k within = pow-le-pow_right (omega arith) within

pub power_of_two : (k : ℕ) → k ≤ 120 → 2 ^ k ≤ 2 ^ 120
power_of_two k within = pow-le-pow_right (omega arith) within

pub power_some : (k : ℕ) → 0 < 10 ^ k
power_some k = omega (arith, one-le-pow k 10 (omega arith))

-- as many bits more as are left below 120
pub scaled_within : (m bits : ℕ) → bits ≤ 120 → m ≤ 2 ^ (120 - bits) → m * 2 ^ bits ≤ 2 ^ 120
scaled_within m bits few small =
    let times : m * 2 ^ bits ≤ 2 ^ (120 - bits) * 2 ^ bits = mul-le-mul_right (2 ^ bits) small in
    let all : (120 - bits) + bits ≡ 120 = omega arith in
    let power : 2 ^ 120 ≡ 2 ^ (120 - bits) * 2 ^ bits = ap (λ k. 2 ^ k) (sym all) ∙ pow-add 2 (120 - bits) bits in
    omega arith
