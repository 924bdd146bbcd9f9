use Rattle.std.proofs.Common.{◌≡◌, take, map}
use Rattle.tdf_trace_states.proofs.numbers.samples_in.Given as goal
use Rattle.tdf_trace_states.specs.ColumnStates.{sample_in}

abbrev pub invariant-loop-i : goal.invariant-loop-i
invariant-loop-i l = l.samples.items ≡ map (sample_in l.format) (take l.i l.nums)
