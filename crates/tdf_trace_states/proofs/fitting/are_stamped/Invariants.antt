use Rattle.tdf_trace_states.specs.ColumnStates.{IsInFormat}
use Rattle.tdf_trace_states.proofs.Fits.{AreSoTo}
use Rattle.tdf_trace_states.proofs.fitting.are_stamped.Given as goal

abbrev pub invariant-loop-i : goal.invariant-loop-i
invariant-loop-i l = AreSoTo (λ k x. IsInFormat l.format x.num) l.samples l.i
