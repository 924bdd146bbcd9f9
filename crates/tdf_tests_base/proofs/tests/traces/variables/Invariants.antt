use Rattle.std.proofs.Common.{◌≡◌, length, ℕ, slice_get, Some}
use Rattle.tdf_tests_base.proofs.tests.traces.variables.Given as goal
use Rattle.tdf_trace.specs.Columns.{HasFewPlaces}
use Rattle.tdf_trace.specs.declared.about.Variable.{Variable}

abbrev pub invariant-loop-i : goal.invariant-loop-i
invariant-loop-i l = record {
  many : length l.list.items ≡ l.i;
  few : (c : ℕ) (v : Variable) → slice_get l.list.items c ≡ Some v → HasFewPlaces v.first;
}
