use Rattle.std.proofs.Common.{◌≡◌, Some, arith}
use Rattle.std.specs.Prelude.{slice_get}
use Rattle.tdf_dynamic.proofs.Rows.{after_more, get_read}
use Rattle.tdf_dynamic.proofs.tables.table_after.Goals as goal

pub put_after-requires : goal.put_after-requires
put_after-requires c =
    let at : slice_get c.args.table.now c.loop-i.i ≡ Some c.index-table-i.result = get_read c.args.table.now c.loop-i.i c.index-table-i.result c.loop-i-test.true c.index-table-i.is in
    let there : slice_get c.args.frames.now c.loop-i.i ≡ Some c.index-frames-i.result =
    get_read c.args.frames.now c.loop-i.i c.index-frames-i.result (let a = c.loop-i-test.true in let l = c.requires.tells.long in omega (arith, a, l)) c.index-frames-i.is in
    record { tells = c.requires.tells.each c.loop-i.i c.index-table-i.result c.index-frames-i.result at there }
