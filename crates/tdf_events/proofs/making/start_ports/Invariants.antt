use Rattle.tdf_events.specs.machine.Making.{AreAllPorts}
use Rattle.tdf_events.proofs.making.start_ports.Given as goal

abbrev pub invariant-loop-i : goal.invariant-loop-i
invariant-loop-i l = AreAllPorts l.checked l.blocks l.i l.all.items
