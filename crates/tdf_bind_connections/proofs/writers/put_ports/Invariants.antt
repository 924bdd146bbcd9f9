use Rattle.std.proofs.Common.{◌≡◌, ◌++◌, take}
use Rattle.tdf_bind_connections.specs.Writers.{module_writers}
use Rattle.tdf_bind_connections.proofs.writers.put_ports.Given as goal

abbrev pub invariant-loop-number : goal.invariant-loop-number
invariant-loop-number l = l.writers.items ≡ l.initial.writers.items ++ module_writers l.event (take l.number l.ports)
