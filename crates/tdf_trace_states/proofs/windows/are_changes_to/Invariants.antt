use Rattle.tdf_trace_states.proofs.Changing.{ChangedTo}
use Rattle.tdf_trace_states.proofs.windows.are_changes_to.Given as goal

abbrev pub invariant-loop-i : goal.invariant-loop-i
invariant-loop-i l = ChangedTo l.value l.samples l.last l.i l.before
