use Rattle.std.proofs.Common.{ℕ, ◌<◌}
use Rattle.tdf_schedule.specs.views.Faults.{IsFull}
use Rattle.tdf_schedule.proofs.faults.first_short.Given as goal

abbrev pub invariant-loop-actor : goal.invariant-loop-actor
invariant-loop-actor l = (k : ℕ) → k < l.actor → IsFull l.counts l.table.items k
