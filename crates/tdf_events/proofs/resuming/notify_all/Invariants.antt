use Rattle.tdf_events.proofs.Resumed.{AreNotified}
use Rattle.tdf_events.proofs.resuming.notify_all.Given as goal

abbrev pub invariant-loop-i : goal.invariant-loop-i
invariant-loop-i l = AreNotified l.list l.i l.initial.notices l.notices
