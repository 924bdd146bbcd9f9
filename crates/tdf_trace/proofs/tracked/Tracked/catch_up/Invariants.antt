use Rattle.tdf_trace.proofs.tracked.Tracked.catch_up.Given as goal
use Rattle.tdf_trace.specs.machine.Showing.{IsCatchingUp}

abbrev pub invariant-loop-self : goal.invariant-loop-self
invariant-loop-self l = IsCatchingUp l.initial.self l.self l.initial.trace l.trace

abbrev pub decreases-loop-self : goal.decreases-loop-self
decreases-loop-self l = l.self.stamps.left
