use Rattle.std.proofs.Common.{◌≡◌, take, map}
use Rattle.tdf_trace.proofs.states.held_in.Given as goal
use Rattle.tdf_trace.specs.machine.Resuming.{held_in}

abbrev pub invariant-loop-i : goal.invariant-loop-i
invariant-loop-i l = l.held.items ≡ map (held_in l.format) (take l.i l.samples)
