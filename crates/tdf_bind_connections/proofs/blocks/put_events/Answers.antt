use Rattle.tdf_bind_connections.proofs.Lists.{map_next}
use Rattle.tdf_bind_connections.specs.ProcessBlocks.{event_row}
use Rattle.tdf_bind_connections.proofs.blocks.put_events.Goals as goal

pub loop-i-preserved : goal.loop-i-preserved
loop-i-preserved c = map_next (event_row c.args.owner) c.args.names.now c.loop-i.i c.index-names-i.result c.in_ok-row.row c.args.rows.now.items c.loop-i.rows.items c.push.new.self.items
    c.loop-i-test.true c.loop-i.invariant c.index-names-i.is c.in_ok-row.ensures c.in_ok-push.ensures.items
