use Rattle.tdf_events.specs.machine.Reading.{AreRead}
use Rattle.tdf_events.proofs.running.read_signals.Given as goal

abbrev pub invariant-loop-i : goal.invariant-loop-i
invariant-loop-i l = AreRead l.values l.signals l.reads l.i l.initial.ports l.ports
