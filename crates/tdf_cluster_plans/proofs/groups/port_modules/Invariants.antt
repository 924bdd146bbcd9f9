use Rattle.std.proofs.Common.{◌≡◌, map, take}
use Rattle.tdf_bind_connections.specs.declared.modules.PortRow.{PortRow}
use Rattle.tdf_cluster_plans.proofs.groups.port_modules.Given as goal

abbrev pub invariant-loop-i : goal.invariant-loop-i
invariant-loop-i l = l.of.items ≡ map (λ (port : PortRow). port.«module») (take l.i l.ports)
