use Rattle.std.proofs.Common.{rules, ◌≡◌, Some, arith, false, true}
use Rattle.std.specs.Prelude.{slice_get}
use Rattle.tdf_dynamic.proofs.Rows.{below_more, get_read, not_both}
use Rattle.tdf_dynamic.specs.declared.frames.ModuleFrame.{ModuleFrame}
use Rattle.tdf_dynamic_plans.specs.Attributes.{AttrsOf}
use Rattle.tdf_streams.proofs.Api.{get_inside}
use Rattle.tdf_dynamic.proofs.tables.first_marked.Goals as goal

pub returns-then-out_of_range-clause-first : goal.returns-then-out_of_range-clause-first
returns-then-out_of_range-clause-first c =
    let row = get_inside c.args.table.now c.loop-i.i c.loop-i-test.true in
    let there : slice_get c.args.frames.now c.loop-i.i ≡ Some c.index-frames-i.result =
    get_read c.args.frames.now c.loop-i.i c.index-frames-i.result (let a = c.loop-i-test.true in let l = c.requires.long in omega (arith, a, l)) c.index-frames-i.is in
    let marked : c.index-frames-i.result.ports.state.out_of_range ≡ true = search rules in
    record { one = row.0; other = c.index-frames-i.result; one_at = row.1; other_at = there; holds = marked; before = c.loop-i.invariant }

pub loop-i-preserved : goal.loop-i-preserved
loop-i-preserved c =
    let row = get_inside c.args.table.now c.loop-i.i c.loop-i-test.true in
    let there : slice_get c.args.frames.now c.loop-i.i ≡ Some c.index-frames-i.result =
    get_read c.args.frames.now c.loop-i.i c.index-frames-i.result (let a = c.loop-i-test.true in let l = c.requires.long in omega (arith, a, l)) c.index-frames-i.is in
    let unmarked : c.index-frames-i.result.ports.state.out_of_range ≡ false = search rules in
    below_more (λ (attrs : AttrsOf) (f : ModuleFrame). f.ports.state.out_of_range ≡ true → ⊥) c.args.table.now c.args.frames.now c.loop-i.i row.0 c.index-frames-i.result row.1 there
    (λ marked. not_both c.index-frames-i.result.ports.state.out_of_range unmarked marked) c.loop-i.invariant
