use Rattle.std.proofs.Common.{◌≡◌, ◌++◌, take}
use Rattle.tdf_bind_connections.specs.machine.ModuleSteps.{ports_before}
use Rattle.tdf_bind_connections.proofs.modules.put_ports.Given as goal

abbrev pub invariant-loop-place : goal.invariant-loop-place
invariant-loop-place l = l.rows.items ≡ l.initial.rows.items ++ ports_before l.number l.instance (take l.place l.ports)
