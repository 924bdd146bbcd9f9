use Rattle.std.proofs.Common.{[]}
use Rattle.tdf_bind_connections.proofs.Lists.{numbered_next}
use Rattle.tdf_bind_connections.specs.machine.DriverSteps.{row_by}
use Rattle.tdf_bind_connections.proofs.drivers.rows_by.Goals as goal

pub loop-number-preserved : goal.loop-number-preserved
loop-number-preserved c = numbered_next (row_by c.args.drivers.now) c.args.signals.now c.loop-number.number c.index-signals-number.result c.in_ok-row.row [] c.loop-number.rows.items c.push.new.self.items
    c.loop-number-test.true c.loop-number.invariant c.index-signals-number.is c.in_ok-row.ensures c.in_ok-push.ensures.items
