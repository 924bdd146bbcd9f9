use Rattle.tdf_events.specs.machine.Updating.{AreGiven}
use Rattle.tdf_events.proofs.updating.give_values.Given as goal

abbrev pub invariant-loop-i : goal.invariant-loop-i
invariant-loop-i l = AreGiven l.signals l.i l.initial.waiting.items l.waiting.items l.initial.values.items l.values.items
