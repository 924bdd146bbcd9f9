use Rattle.tdf_trace.proofs.tracked.Tracked.close.Given as goal
use Rattle.tdf_trace.specs.machine.Showing.{IsClosing}

abbrev pub invariant-loop-stamps : goal.invariant-loop-stamps
invariant-loop-stamps l = IsClosing l.self l.stamps l.initial.trace l.trace

abbrev pub decreases-loop-stamps : goal.decreases-loop-stamps
decreases-loop-stamps l = l.stamps.left
