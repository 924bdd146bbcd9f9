use Rattle.std.proofs.Common.{◌≡◌, ◌+◌, ◌<◌, ◌≤◌, ℕ, Some}
use Rattle.std.specs.Prelude.{slice_get}
use Rattle.tdf_dynamic_plans.specs.Attributes.{AttrsOf}
use Rattle.tdf_dynamic_plans.proofs.single.are_rising.Given as goal

abbrev pub invariant-loop-i : goal.invariant-loop-i
invariant-loop-i l = record {
  first : 1 ≤ l.i;
  rises : (k : ℕ) → k + 1 < l.i → (one other : AttrsOf) → slice_get l.table k ≡ Some one → slice_get l.table (k + 1) ≡ Some other → one.number < other.number;
}
