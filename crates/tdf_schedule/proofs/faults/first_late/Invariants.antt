use Rattle.std.proofs.Common.{ℕ, ◌<◌}
use Rattle.tdf_schedule.specs.views.Faults.{IsLateSink}
use Rattle.tdf_schedule.proofs.faults.first_late.Given as goal

abbrev pub invariant-loop-actor : goal.invariant-loop-actor
invariant-loop-actor l = (k b : ℕ) → k < l.actor → IsLateSink l.actors l.table.items l.paces k b → ⊥
