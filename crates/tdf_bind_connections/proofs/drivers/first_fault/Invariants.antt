use Rattle.std.proofs.Common.{◌≡◌, drop}
use Rattle.std.specs.Prelude.{slice_get, filter_map}
use Rattle.tdf_bind_connections.specs.machine.DriverSteps.{fault_by}
use Rattle.tdf_bind_connections.proofs.drivers.first_fault.Given as goal

abbrev pub invariant-loop-i : goal.invariant-loop-i
invariant-loop-i l = slice_get (filter_map (fault_by l.signals l.events) (drop l.i l.order)) 0 ≡ slice_get (filter_map (fault_by l.signals l.events) l.order) 0
