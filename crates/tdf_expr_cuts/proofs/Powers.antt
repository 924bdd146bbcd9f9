-- Powers of two that fit 64 bits.
use Rattle.std.proofs.Common.{ℕ, ◌^◌, ◌≤◌, arith}
use Rattle.std.proofs.Math.Nat.{pow-le-pow_right}

pub small_power : (s : ℕ) → s ≤ 62 → 2 ^ s ≤ 2 ^ 62
small_power s few = pow-le-pow_right (omega arith) few
