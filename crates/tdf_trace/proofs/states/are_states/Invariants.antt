use Rattle.std.proofs.Common.{◌≡◌, ◌<◌, ℕ, Some, is_some, slice_get}
use Rattle.tdf_saved.specs.State.{ColumnStateOf}
use Rattle.tdf_trace.proofs.states.are_states.Given as goal
use Rattle.tdf_trace.specs.declared.about.Variable.{Variable}
use Rattle.tdf_trace_states.specs.ColumnStates.{IsColumnState}

abbrev pub invariant-loop-i : goal.invariant-loop-i
invariant-loop-i l = (n : ℕ) (v : Variable) (s : ColumnStateOf) → n < l.i → slice_get l.variables.items n ≡ Some v → slice_get l.states.items n ≡ Some s → IsColumnState v.format (is_some v.first) l.time s
