use Rattle.tdf_events.specs.machine.Making.{AreAdded}
use Rattle.tdf_events.proofs.making.add_all.Given as goal

abbrev pub invariant-loop-i : goal.invariant-loop-i
invariant-loop-i l = AreAdded l.numbers l.process l.i l.initial.lists l.lists
