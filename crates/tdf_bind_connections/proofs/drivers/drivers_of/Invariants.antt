use Rattle.std.proofs.Common.{take}
use Rattle.tdf_bind_connections.specs.Drivers.{AreDrivers}
use Rattle.tdf_bind_connections.proofs.drivers.drivers_of.Given as goal

abbrev pub invariant-loop-i : goal.invariant-loop-i
invariant-loop-i l = AreDrivers l.count (take l.i l.writers) l.drivers.items
