use Rattle.tdf_events_queue.specs.Triggered.{AreAllTriggered}
use Rattle.tdf_events_queue.proofs.triggering.trigger_all.Given as goal

abbrev pub invariant-loop-i : goal.invariant-loop-i
invariant-loop-i l = AreAllTriggered l.lists l.numbers l.i l.initial.set.flags l.set.flags
