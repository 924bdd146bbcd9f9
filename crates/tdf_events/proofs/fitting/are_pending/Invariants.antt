use Rattle.tdf_events.proofs.Fits.{ArePendingBelow}
use Rattle.tdf_events.proofs.fitting.are_pending.Given as goal

abbrev pub invariant-loop-i : goal.invariant-loop-i
invariant-loop-i l = ArePendingBelow l.events l.time l.list l.i l.least
