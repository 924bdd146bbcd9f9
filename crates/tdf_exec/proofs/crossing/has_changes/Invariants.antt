use Rattle.std.proofs.Common.{◌≡◌, ◌<◌, ℕ, Some, false}
use Rattle.std.specs.Prelude.{slice_get}
use Rattle.tdf_dynamic_plans.specs.Attributes.{AttrsOf}
use Rattle.tdf_streams.specs.Places.{has_changes}
use Rattle.tdf_exec.proofs.crossing.has_changes.Given as goal

abbrev pub invariant-loop-i : goal.invariant-loop-i
invariant-loop-i l = (j : ℕ) (a : AttrsOf) → j < l.i → slice_get l.rows j ≡ Some a → has_changes l.flat.tables.modules a.number ≡ false
