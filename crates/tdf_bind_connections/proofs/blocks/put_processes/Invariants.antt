use Rattle.std.proofs.Common.{◌≡◌, ◌++◌, take}
use Rattle.tdf_bind_connections.specs.machine.BlockSteps.{processes_of}
use Rattle.tdf_bind_connections.proofs.blocks.put_processes.Given as goal

abbrev pub invariant-loop-number : goal.invariant-loop-number
invariant-loop-number l = l.rows.items ≡ l.initial.rows.items ++ processes_of l.owner l.first l.signals (take l.number l.processes)
