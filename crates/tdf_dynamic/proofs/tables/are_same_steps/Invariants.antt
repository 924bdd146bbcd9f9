use Rattle.std.proofs.Common.{◌≡◌, ◌<◌, ℕ}
use Rattle.std.proofs.Math.ListN.{get_or}
use Rattle.std.specs.Prelude.{slice_get}
use Rattle.tdf_dynamic.specs.Asked.{said_or}
use Rattle.tdf_expr_state.specs.State.{standing}
use Rattle.tdf_dynamic.proofs.tables.are_same_steps.Given as goal

abbrev pub invariant-loop-place : goal.invariant-loop-place
invariant-loop-place l = (j : ℕ) → j < l.place → said_or (get_or l.before j 0) (standing (slice_get l.ports.state.steps j)) ≡ get_or l.before j 0
