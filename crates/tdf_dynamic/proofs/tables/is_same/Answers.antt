use Rattle.std.proofs.Common.{rules, ◌≡◌, Some, arith, false}
use Rattle.std.specs.Prelude.{slice_get}
use Rattle.tdf_dynamic.proofs.Rows.{below_more, get_read, not_both}
use Rattle.tdf_dynamic.specs.Asked.{IsQuiet}
use Rattle.tdf_dynamic.specs.machine.Asking.{told}
use Rattle.tdf_dynamic.proofs.tables.is_same.Goals as goal

pub is_quiet-requires : goal.is_quiet-requires
is_quiet-requires c =
    let at : slice_get c.args.table.now c.loop-i.i ≡ Some c.index-table-i.result = get_read c.args.table.now c.loop-i.i c.index-table-i.result c.loop-i-test.true c.index-table-i.is in
    let there : slice_get c.args.frames.now c.loop-i.i ≡ Some c.index-frames-i.result =
    get_read c.args.frames.now c.loop-i.i c.index-frames-i.result (let a = c.loop-i-test.true in let l = c.requires.tells.long in omega (arith, a, l)) c.index-frames-i.is in
    record { tells = c.requires.tells.each c.loop-i.i c.index-table-i.result c.index-frames-i.result at there }

pub returns-then-not-is_quiet : goal.returns-then-not-is_quiet
returns-then-not-is_quiet c =
    let at : slice_get c.args.table.now c.loop-i.i ≡ Some c.index-table-i.result = get_read c.args.table.now c.loop-i.i c.index-table-i.result c.loop-i-test.true c.index-table-i.is in
    let there : slice_get c.args.frames.now c.loop-i.i ≡ Some c.index-frames-i.result =
    get_read c.args.frames.now c.loop-i.i c.index-frames-i.result (let a = c.loop-i-test.true in let l = c.requires.tells.long in omega (arith, a, l)) c.index-frames-i.is in
    let no : c.is_quiet.result ≡ false = search rules in
    ((λ is. absurd cc), (λ all. absurd (not_both c.is_quiet.result no (c.is_quiet.ensures.1 (all c.loop-i.i c.index-table-i.result c.index-frames-i.result c.loop-i-test.true at there)))))

pub loop-i-preserved : goal.loop-i-preserved
loop-i-preserved c =
    let at : slice_get c.args.table.now c.loop-i.i ≡ Some c.index-table-i.result = get_read c.args.table.now c.loop-i.i c.index-table-i.result c.loop-i-test.true c.index-table-i.is in
    let there : slice_get c.args.frames.now c.loop-i.i ≡ Some c.index-frames-i.result =
    get_read c.args.frames.now c.loop-i.i c.index-frames-i.result (let a = c.loop-i-test.true in let l = c.requires.tells.long in omega (arith, a, l)) c.index-frames-i.is in
    let quiet : IsQuiet c.index-table-i.result (told c.index-frames-i.result) = search rules in
    below_more (λ attrs f. IsQuiet attrs (told f)) c.args.table.now c.args.frames.now c.loop-i.i c.index-table-i.result c.index-frames-i.result at there quiet c.loop-i.invariant
