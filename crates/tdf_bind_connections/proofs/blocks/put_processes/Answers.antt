use Rattle.tdf_bind_connections.proofs.Lists.{numbered_next}
use Rattle.tdf_bind_connections.specs.ProcessBlocks.{process_row}
use Rattle.tdf_bind_connections.proofs.blocks.put_processes.Goals as goal

pub loop-number-preserved : goal.loop-number-preserved
loop-number-preserved c = numbered_next (process_row c.args.owner c.args.first c.args.signals.now) c.args.processes.now c.loop-number.number c.index-processes-number.result c.in_ok-row.row c.args.rows.now.items c.loop-number.rows.items c.push.new.self.items
    c.loop-number-test.true c.loop-number.invariant c.index-processes-number.is c.in_ok-row.ensures c.in_ok-push.ensures.items
