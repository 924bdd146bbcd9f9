use Rattle.std.proofs.Common.{[]}
use Rattle.tdf_bind_connections.specs.Drivers.{AreDrivers}
use Rattle.tdf_bind_connections.proofs.drivers.missing.Given as goal

abbrev pub invariant-loop : goal.invariant-loop
invariant-loop l = AreDrivers l.counter [] l.drivers.items
