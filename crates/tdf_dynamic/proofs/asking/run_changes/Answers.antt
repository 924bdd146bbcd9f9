use Rattle.std.proofs.Common.{◌≡◌, ◌∙◌, ◌<◌, Some, arith, length, sym}
use Rattle.std.specs.Prelude.{slice_get}
use Rattle.tdf_dynamic.proofs.Rows.{asked_more, get_read}
use Rattle.tdf_dynamic.proofs.asking.run_changes.Goals as goal

pub run_change-requires-clause-frame : goal.run_change-requires-clause-frame
run_change-requires-clause-frame c =
    let at : slice_get c.args.table.now c.loop-i.i ≡ Some c.index-table-i.result = get_read c.args.table.now c.loop-i.i c.index-table-i.result c.loop-i-test.true c.index-table-i.is in
    let inside : c.loop-i.i < length c.loop-i.frames.items = (let a = c.loop-i-test.true in let b = c.loop-i.invariant.long in let l = c.requires.frames.long in omega (arith, a, b, l)) in
    let there : slice_get c.loop-i.frames.items c.loop-i.i ≡ Some c.index_mut.result.now = get_read c.loop-i.frames.items c.loop-i.i c.index_mut.result.now inside c.index_mut.ensures.value in
    c.requires.frames.each c.loop-i.i c.index-table-i.result c.index_mut.result.now at (sym (c.loop-i.invariant.left c.loop-i.i (omega arith)) ∙ there)

pub loop-i-preserved : goal.loop-i-preserved
loop-i-preserved c =
    let at : slice_get c.args.table.now c.loop-i.i ≡ Some c.index-table-i.result = get_read c.args.table.now c.loop-i.i c.index-table-i.result c.loop-i-test.true c.index-table-i.is in
    let inside : c.loop-i.i < length c.loop-i.frames.items = (let a = c.loop-i-test.true in let b = c.loop-i.invariant.long in let l = c.requires.frames.long in omega (arith, a, b, l)) in
    let there : slice_get c.loop-i.frames.items c.loop-i.i ≡ Some c.index_mut.result.now = get_read c.loop-i.frames.items c.loop-i.i c.index_mut.result.now inside c.index_mut.ensures.value in
    asked_more c.args.flat.now c.args.table.now c.loop-i.i c.args.frames.now.items c.loop-i.frames.items c.index-table-i.result c.index_mut.result.now c.run_change.new.instance c.loop-i.invariant
    at inside there c.run_change.ensures
