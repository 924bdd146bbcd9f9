use Rattle.tdf_trace.proofs.tracking.Tracking.close.Given as goal
use Rattle.tdf_trace.specs.machine.Going.{IsNotingRest}

abbrev pub invariant-loop-i : goal.invariant-loop-i
invariant-loop-i l = IsNotingRest l.i l.end l.self.list l.initial.trace l.trace
