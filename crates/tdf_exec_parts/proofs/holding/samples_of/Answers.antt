use Rattle.std.proofs.Common.{◌<◌, ◌≤◌, ◌-◌, ◌*◌, ◌^◌, ℕ, arith}
use Rattle.std.proofs.Math.Nat.{mul-le-mul}
use Rattle.tdf_exec_parts.proofs.holding.samples_of.Goals as goal

-- so many firings are of less than 2^96 samples
few_samples : (f r : ℕ) → f < 2 ^ 64 → r < 2 ^ 32 → f * r < 2 ^ 96
few_samples f r fs rs = let a : f ≤ 2 ^ 64 - 1 = omega (arith, fs) in let b : r ≤ 2 ^ 32 - 1 = omega (arith, rs) in let h : f * r ≤ (2 ^ 64 - 1) * (2 ^ 32 - 1) = mul-le-mul a b in omega (arith, h)

pub overflow_mul-result : goal.overflow_mul-result
overflow_mul-result c = let few = few_samples c.args.firings c.args.rate c.ranges.firings.fits c.ranges.rate.fits in omega (arith, few)

pub returns-clause-small : goal.returns-clause-small
returns-clause-small c = few_samples c.args.firings c.args.rate c.ranges.firings.fits c.ranges.rate.fits
