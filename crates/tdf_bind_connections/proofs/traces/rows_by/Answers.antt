use Rattle.tdf_bind_connections.proofs.TraceLoops.{traces_next}
use Rattle.tdf_bind_connections.proofs.traces.rows_by.Goals as goal

pub loop-i-preserved : goal.loop-i-preserved
loop-i-preserved c = traces_next c.args.paths.now c.args.lines.now c.loop-i.i c.index-lines-i.result c.in-Ok.row c.loop-i.rows.items c.push.new.rows.items
    c.loop-i-test.true c.loop-i.invariant c.index-lines-i.is c.in-Ok.ensures.row c.in_ok-push-in-Ok.ensures
