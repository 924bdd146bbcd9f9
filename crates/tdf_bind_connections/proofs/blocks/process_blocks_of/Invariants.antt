use Rattle.std.proofs.Common.{take}
use Rattle.tdf_bind_connections.specs.ProcessBlocks.{AreProcessBlocks}
use Rattle.tdf_bind_connections.proofs.blocks.process_blocks_of.Given as goal

abbrev pub invariant-loop-instance : goal.invariant-loop-instance
invariant-loop-instance l = AreProcessBlocks l.roles (take l.instance-index l.instances) l.all
