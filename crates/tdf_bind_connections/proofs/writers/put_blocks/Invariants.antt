use Rattle.std.proofs.Common.{◌≡◌, ◌++◌, take}
use Rattle.tdf_bind_connections.specs.ProcessBlocks.{placed_blocks}
use Rattle.tdf_bind_connections.specs.Writers.{block_writers}
use Rattle.tdf_bind_connections.proofs.writers.put_blocks.Given as goal

abbrev pub invariant-loop-instance : goal.invariant-loop-instance
invariant-loop-instance l = l.writers.items ≡ l.initial.writers.items ++ block_writers l.event (placed_blocks l.roles (take l.instance-index l.instances))
