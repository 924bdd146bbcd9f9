use Rattle.tdf_trace_states.specs.ColumnStates.{IsInFormat}
use Rattle.tdf_trace_states.proofs.Fits.{AreSoTo}
use Rattle.tdf_trace_states.proofs.fitting.are_numbers.Given as goal

abbrev pub invariant-loop-i : goal.invariant-loop-i
invariant-loop-i l = AreSoTo (λ k num. IsInFormat l.format num) l.nums l.i
