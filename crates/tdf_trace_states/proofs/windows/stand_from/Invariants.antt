use Rattle.tdf_trace_states.proofs.Standing.{StoodTo}
use Rattle.tdf_trace_states.proofs.windows.stand_from.Given as goal

abbrev pub invariant-loop-i : goal.invariant-loop-i
invariant-loop-i l = StoodTo l.window l.samples l.i l.place
