use Rattle.std.proofs.Common.{◌+◌, map, subst, sym}
use Rattle.tdf_dynamic_plans.specs.Rates.{rated_port}
use Rattle.tdf_cluster_net.specs.Made.{ArePickedOf}
use Rattle.tdf_cluster_plans.proofs.Parts.{picked_mapped}
use Rattle.tdf_cluster_plans.proofs.own_parts.own_ports.Goals as goal

pub loop-i-preserved : goal.loop-i-preserved
loop-i-preserved c = subst (ArePickedOf (map (rated_port c.args.table.now) c.args.ports.now) c.args.numbers.now (c.loop-i.i + 1)) (sym (c.in_ok-push.ensures).items)
    (picked_mapped (rated_port c.args.table.now) c.args.ports.now c.args.numbers.now c.loop-i.i c.loop-i.own.items c.index-ports-numbers.result c.port_under-port.result c.port_under-port.ensures c.index-ports-numbers.is (c.requires.inside c.loop-i.i c.loop-i-test.true) c.loop-i.invariant)
