use Rattle.tdf_events_queue.specs.Triggered.{AreTriggered}
use Rattle.tdf_events_queue.proofs.triggering.insert_all.Given as goal

abbrev pub invariant-loop-i : goal.invariant-loop-i
invariant-loop-i l = AreTriggered l.list l.i l.initial.set.flags l.set.flags
