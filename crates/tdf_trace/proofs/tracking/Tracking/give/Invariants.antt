use Rattle.std.proofs.Common.{take}
use Rattle.tdf_trace.proofs.tracking.Tracking.give.Given as goal
use Rattle.tdf_trace.specs.machine.Going.{IsGiving}

abbrev pub invariant-loop-i : goal.invariant-loop-i
invariant-loop-i l = IsGiving (take l.i l.traced) l.initial.self l.self l.initial.trace l.trace
