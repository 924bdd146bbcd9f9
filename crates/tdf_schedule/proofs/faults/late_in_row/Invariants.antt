use Rattle.std.proofs.Common.{ℕ, ◌<◌}
use Rattle.tdf_schedule.specs.views.Faults.{IsLateAt}
use Rattle.tdf_schedule.proofs.faults.late_in_row.Given as goal

abbrev pub invariant-loop-index : goal.invariant-loop-index
invariant-loop-index l = (b : ℕ) → b < l.index → IsLateAt l.table.items l.paces l.actor b → ⊥
