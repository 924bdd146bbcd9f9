use Rattle.tdf_events.specs.machine.Updating.{AreReached, does_change}
use Rattle.tdf_events.proofs.updating.trigger_changed.Given as goal

abbrev pub invariant-loop-i : goal.invariant-loop-i
invariant-loop-i l = AreReached l.lists (does_change l.values l.waiting) l.signals l.i l.initial.set.flags l.set.flags
