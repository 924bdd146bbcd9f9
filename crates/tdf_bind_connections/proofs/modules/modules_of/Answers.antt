use Rattle.tdf_bind_connections.proofs.ModuleLoops.{instance_more}
use Rattle.tdf_bind_connections.proofs.modules.modules_of.Goals as goal

pub loop-instance-preserved : goal.loop-instance-preserved
loop-instance-preserved c = instance_more c.args.roles.now c.args.instances.now c.loop-instance.instance-index c.instance-item.result c.loop-instance.all c.put_instance.new.all
    c.loop-instance-test.true c.loop-instance.invariant c.instance-item.is c.in_ok-put_instance.ensures
