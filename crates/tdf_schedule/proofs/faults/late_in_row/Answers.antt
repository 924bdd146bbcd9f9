use Rattle.tdf_schedule.proofs.Lates.{late_more, late_none}
use Rattle.tdf_schedule.proofs.faults.late_in_row.Goals as goal

pub loop-index-preserved : goal.loop-index-preserved
loop-index-preserved c = late_more c.args.table.now.items c.args.paces.now c.args.actor c.loop-index.index c.index.result.now c.key.result c.requires.actor c.index.ensures c.key.ensures
    c.if-index-paces.false c.loop-index.invariant

pub returns : goal.returns
returns c = late_none c.args.table.now.items c.args.paces.now c.args.actor c.loop-index.index c.row_len-index-end.result c.row_len-index-end.ensures c.loop-index-test.false c.loop-index.invariant
