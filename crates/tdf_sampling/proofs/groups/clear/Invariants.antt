use Rattle.std.proofs.Common.{◌≡◌, ◌<◌, ℕ, Some, length}
use Rattle.std.specs.Prelude.{slice_get}
use Rattle.tdf_sampling.proofs.groups.clear.Given as goal
use Rattle.tdf_sampling.specs.machine.Measures.{no_cells}

abbrev pub invariant-loop-place : goal.invariant-loop-place
invariant-loop-place l = record {
  same : length l.columns.items ≡ length l.initial.columns.items;
  cleared : (k : ℕ) → k < l.place → slice_get l.columns.items k ≡ Some no_cells;
}
