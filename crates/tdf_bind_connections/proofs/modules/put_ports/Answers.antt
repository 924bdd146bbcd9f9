use Rattle.tdf_bind_connections.proofs.Lists.{numbered_next}
use Rattle.tdf_bind_connections.specs.Modules.{port_row}
use Rattle.tdf_bind_connections.proofs.modules.put_ports.Goals as goal

pub loop-place-preserved : goal.loop-place-preserved
loop-place-preserved c = numbered_next (port_row c.args.number c.args.instance.now) c.args.ports.now c.loop-place.place c.index-ports-place.result c.in_ok-row.row c.args.rows.now.items c.loop-place.rows.items c.push.new.self.items
    c.loop-place-test.true c.loop-place.invariant c.index-ports-place.is c.in_ok-row.ensures c.in_ok-push.ensures.items
