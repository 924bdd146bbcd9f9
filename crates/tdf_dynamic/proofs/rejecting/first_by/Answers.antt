use Rattle.std.proofs.Common.{rules, ◌≡◌, Some, arith, false}
use Rattle.std.specs.Prelude.{slice_get}
use Rattle.tdf_dynamic.proofs.Rows.{below_more, get_read, not_both}
use Rattle.tdf_dynamic.specs.declared.frames.ModuleFrame.{ModuleFrame}
use Rattle.tdf_dynamic.specs.machine.Rows.{IsRefusing}
use Rattle.tdf_dynamic_plans.specs.Attributes.{AttrsOf}
use Rattle.tdf_dynamic_plans.specs.Rates.{net_ports}
use Rattle.tdf_dynamic.proofs.rejecting.first_by.Goals as goal

pub rejects-requires-clause-tells : goal.rejects-requires-clause-tells
rejects-requires-clause-tells c =
    let at : slice_get c.args.table.now c.loop-i.i ≡ Some c.index-table-i.result = get_read c.args.table.now c.loop-i.i c.index-table-i.result c.loop-i-test.true c.index-table-i.is in
    let there : slice_get c.args.frames.now c.loop-i.i ≡ Some c.index-frames-i.result =
    get_read c.args.frames.now c.loop-i.i c.index-frames-i.result (let a = c.loop-i-test.true in let l = c.requires.tells.long in omega (arith, a, l)) c.index-frames-i.is in
    c.requires.tells.each c.loop-i.i c.index-table-i.result c.index-frames-i.result at there

pub returns-then-rejects : goal.returns-then-rejects
returns-then-rejects c =
    let at : slice_get c.args.table.now c.loop-i.i ≡ Some c.index-table-i.result = get_read c.args.table.now c.loop-i.i c.index-table-i.result c.loop-i-test.true c.index-table-i.is in
    let there : slice_get c.args.frames.now c.loop-i.i ≡ Some c.index-frames-i.result =
    get_read c.args.frames.now c.loop-i.i c.index-frames-i.result (let a = c.loop-i-test.true in let l = c.requires.tells.long in omega (arith, a, l)) c.index-frames-i.is in
    record { one = c.index-table-i.result; other = c.index-frames-i.result; one_at = at; other_at = there; holds = c.rejects.ensures.0 (search rules); before = c.loop-i.invariant }

pub loop-i-preserved : goal.loop-i-preserved
loop-i-preserved c =
    let at : slice_get c.args.table.now c.loop-i.i ≡ Some c.index-table-i.result = get_read c.args.table.now c.loop-i.i c.index-table-i.result c.loop-i-test.true c.index-table-i.is in
    let there : slice_get c.args.frames.now c.loop-i.i ≡ Some c.index-frames-i.result =
    get_read c.args.frames.now c.loop-i.i c.index-frames-i.result (let a = c.loop-i-test.true in let l = c.requires.tells.long in omega (arith, a, l)) c.index-frames-i.is in
    let unset : c.rejects.result ≡ false = search rules in
    below_more (λ (attrs : AttrsOf) (f : ModuleFrame). IsRefusing (net_ports c.args.flat.now.tables c.args.before.now.table.now) (net_ports c.args.flat.now.tables c.args.after.now.table.now) c.args.before.now.steps.now c.args.after.now.steps.now attrs f → ⊥)
    c.args.table.now c.args.frames.now c.loop-i.i c.index-table-i.result c.index-frames-i.result at there
    (λ is. not_both c.rejects.result unset (c.rejects.ensures.1 is)) c.loop-i.invariant
