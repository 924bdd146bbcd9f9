use Rattle.std.proofs.Common.{rules, ◌≡◌, Some, arith}
use Rattle.std.specs.Prelude.{slice_get}
use Rattle.tdf_dynamic.proofs.Rows.{below_more, get_read}
use Rattle.tdf_dynamic.specs.machine.Rows.{TakesAll}
use Rattle.tdf_dynamic.proofs.rejecting.take_all.Goals as goal

pub takes_all-requires : goal.takes_all-requires
takes_all-requires c =
    let at : slice_get c.args.table.now c.loop-i.i ≡ Some c.index-table-i.result = get_read c.args.table.now c.loop-i.i c.index-table-i.result c.loop-i-test.true c.index-table-i.is in
    let there : slice_get c.args.frames.now c.loop-i.i ≡ Some c.index-frames-i.result =
    get_read c.args.frames.now c.loop-i.i c.index-frames-i.result (let a = c.loop-i-test.true in let l = c.requires.tells.long in omega (arith, a, l)) c.index-frames-i.is in
    record { tells = c.requires.tells.each c.loop-i.i c.index-table-i.result c.index-frames-i.result at there }

pub loop-i-preserved : goal.loop-i-preserved
loop-i-preserved c =
    let at : slice_get c.args.table.now c.loop-i.i ≡ Some c.index-table-i.result = get_read c.args.table.now c.loop-i.i c.index-table-i.result c.loop-i-test.true c.index-table-i.is in
    let there : slice_get c.args.frames.now c.loop-i.i ≡ Some c.index-frames-i.result =
    get_read c.args.frames.now c.loop-i.i c.index-frames-i.result (let a = c.loop-i-test.true in let l = c.requires.tells.long in omega (arith, a, l)) c.index-frames-i.is in
    let takes : TakesAll c.index-table-i.result c.index-frames-i.result = c.takes_all.ensures (search rules) in
    below_more TakesAll c.args.table.now c.args.frames.now c.loop-i.i c.index-table-i.result c.index-frames-i.result at there takes c.loop-i.invariant

pub returns : goal.returns
returns c = λ taken. λ j x y below at there. c.loop-i.invariant j x y (let t = c.loop-i-test.false in let e = c.loop-i.auto.i-end in omega (arith, below, t, e)) at there
