use Rattle.std.proofs.Common.{ℕ, ◌<◌}
use Rattle.std.specs.Int.{IsGcd}
use Rattle.tdf_balance.proofs.divisor.gcd.Given as goal

abbrev pub invariant-loop-rest : goal.invariant-loop-rest
invariant-loop-rest l = record { some : 0 < l.greater; same : (g : ℕ) → IsGcd l.greater l.rest g → IsGcd l.fn.first l.fn.second g }

abbrev pub decreases-loop-rest : goal.decreases-loop-rest
decreases-loop-rest l = l.rest
