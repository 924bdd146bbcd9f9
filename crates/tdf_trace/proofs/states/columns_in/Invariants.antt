use Rattle.tdf_trace.proofs.states.columns_in.Given as goal
use Rattle.tdf_trace.specs.machine.Resuming.{AreColumnsIn}

abbrev pub invariant-loop-i : goal.invariant-loop-i
invariant-loop-i l = AreColumnsIn l.variables.items l.states.items l.i l.columns.items
