use Rattle.tdf_bind_connections.proofs.WriterLoops.{blocks_next}
use Rattle.tdf_bind_connections.proofs.writers.put_blocks.Goals as goal

pub loop-instance-preserved : goal.loop-instance-preserved
loop-instance-preserved c = blocks_next c.args.event c.args.roles.now c.args.instances.now c.loop-instance.instance-index c.instance-item.result c.args.writers.now.items c.loop-instance.writers.items c.put_instance.new.writers.items
    c.loop-instance-test.true c.loop-instance.invariant c.instance-item.is c.in_ok-put_instance.ensures
