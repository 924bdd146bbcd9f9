use Rattle.tdf_bind_connections.proofs.EdgeLoops.{edges_next}
use Rattle.tdf_bind_connections.proofs.edges.edges_of.Goals as goal

pub loop-number-preserved : goal.loop-number-preserved
loop-number-preserved c = edges_next c.args.modules c.args.signals.now c.args.ports.now c.loop-number.number c.index-ports-number.result c.loop-number.actor c.in_ok-actor.actor c.in_ok-edge.edge c.loop-number.edges.items c.put_edge.new.edges.items
    c.loop-number-test.true c.loop-number.invariant c.index-ports-number.is c.in_ok-edge.ensures c.in_ok-put_edge.ensures c.in_ok-actor.ensures
