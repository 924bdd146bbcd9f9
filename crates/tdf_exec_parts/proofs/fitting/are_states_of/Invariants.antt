use Rattle.tdf_exec_parts.proofs.Fits.{AreStatesBelow}
use Rattle.tdf_exec_parts.proofs.fitting.are_states_of.Given as goal

abbrev pub invariant-loop-i : goal.invariant-loop-i
invariant-loop-i l = AreStatesBelow l.flat l.table l.modules l.i
