use Rattle.std.proofs.Common.{take}
use Rattle.tdf_trace.proofs.tracking.Tracking.add_all.Given as goal
use Rattle.tdf_trace.specs.machine.Going.{IsAdding}

abbrev pub invariant-loop-i : goal.invariant-loop-i
invariant-loop-i l = IsAdding (take l.i l.traces) l.initial.self.signals l.self
