use Rattle.tdf_trace_states.proofs.Fits.{HaveChangedTo}
use Rattle.tdf_trace_states.proofs.fitting.are_changes.Given as goal

abbrev pub invariant-loop-i : goal.invariant-loop-i
invariant-loop-i l = HaveChangedTo l.carry l.samples l.time l.i l.before
