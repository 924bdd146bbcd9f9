use Rattle.std.proofs.Common.{arith}
use Rattle.tdf_stim.proofs.Cells.{cells_more}
use Rattle.tdf_stim.proofs.literals.all_cells.Goals as goal

pub loop-row-preserved : goal.loop-row-preserved
loop-row-preserved c = cells_more c.args.rows.now c.loop-row.row-index _ c.loop-row.cells.items c.push.new.self.items
    c.loop-row-test.true c.loop-row.invariant c.in_ok-push.ensures.items
