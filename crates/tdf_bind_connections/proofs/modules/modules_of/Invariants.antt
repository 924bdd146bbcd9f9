use Rattle.std.proofs.Common.{take}
use Rattle.tdf_bind_connections.specs.Modules.{AreModules}
use Rattle.tdf_bind_connections.proofs.modules.modules_of.Given as goal

abbrev pub invariant-loop-instance : goal.invariant-loop-instance
invariant-loop-instance l = AreModules l.roles (take l.instance-index l.instances) l.all
