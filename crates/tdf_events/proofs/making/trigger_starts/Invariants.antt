use Rattle.tdf_events.specs.machine.Making.{AreStarted}
use Rattle.tdf_events.proofs.making.trigger_starts.Given as goal

abbrev pub invariant-loop-i : goal.invariant-loop-i
invariant-loop-i l = AreStarted l.processes l.i l.set.flags
