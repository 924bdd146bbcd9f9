use Rattle.std.proofs.Common.{◌<◌, ℕ}
use Rattle.tdf_sim_shown.proofs.alike.first_like.Given as goal
use Rattle.tdf_sim_shown.specs.machine.Alike.{IsLike}

abbrev pub invariant-loop-k : goal.invariant-loop-k
invariant-loop-k l = (k : ℕ) → k < l.k → IsLike l.traces k l.column → ⊥
