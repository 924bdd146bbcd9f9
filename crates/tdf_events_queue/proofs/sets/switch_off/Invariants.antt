use Rattle.tdf_events_queue.specs.machine.Clearing.{AreOff}
use Rattle.tdf_events_queue.proofs.sets.switch_off.Given as goal

abbrev pub invariant-loop-i : goal.invariant-loop-i
invariant-loop-i l = AreOff l.list.items l.i l.initial.flags.items l.flags.items
