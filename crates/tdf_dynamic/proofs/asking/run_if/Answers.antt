use Rattle.std.proofs.Common.{rules, ◌≡◌, Some, ap, true, false}
use Rattle.std.specs.Prelude.{slice_get}
use Rattle.tdf_dynamic.proofs.Asks.{made_at, nothing_at, run_at}
use Rattle.tdf_dynamic.proofs.Rows.{row_at}
use Rattle.tdf_dynamic_plans.specs.Attributes.{AttrsOf}
use Rattle.tdf_dynamic.proofs.asking.run_if.Goals as goal

pub returns-then-not-row : goal.returns-then-not-row
returns-then-not-row c =
    let at : slice_get c.args.flat.now.tables.modules c.args.attrs.now.number ≡ Some c.index-row.result.now =
    row_at _ c.args.flat.now c.flat.view_is _ c.args.attrs.now.number c.index-row.result.now (ap (λ (x : AttrsOf). x.number) c.attrs.view_is) c.requires.is_module c.index-row.ensures in
    let none : c.index-row.result.now.changes ≡ false = search rules in
    nothing_at _ c.args.flat.now c.flat.view_is c.args.attrs.now c.index-row.result.now at c.requires.text c.requires.is_module c.requires.allowed c.args.instance.now c.requires.frame c.requires.begun none

pub run_body-requires : goal.run_body-requires
run_body-requires c =
    let at : slice_get c.args.flat.now.tables.modules c.args.attrs.now.number ≡ Some c.index-row.result.now =
    row_at _ c.args.flat.now c.flat.view_is _ c.args.attrs.now.number c.index-row.result.now (ap (λ (x : AttrsOf). x.number) c.attrs.view_is) c.requires.is_module c.index-row.ensures in
    record { made = made_at _ c.args.flat.now c.flat.view_is c.args.attrs.now c.index-row.result.now at c.args.instance.now.frame c.args.instance.now.ports c.requires.frame.made }

pub returns : goal.returns
returns c =
    let at : slice_get c.args.flat.now.tables.modules c.args.attrs.now.number ≡ Some c.index-row.result.now =
    row_at _ c.args.flat.now c.flat.view_is _ c.args.attrs.now.number c.index-row.result.now (ap (λ (x : AttrsOf). x.number) c.attrs.view_is) c.requires.is_module c.index-row.ensures in
    let has : c.index-row.result.now.changes ≡ true = search rules in
    run_at _ c.args.flat.now c.flat.view_is c.args.attrs.now c.index-row.result.now at c.requires.text c.requires.is_module c.requires.allowed c.args.instance.now
    (record { frame = c.run_body.new.frame; ports = c.run_body.new.ports }) c.requires.frame c.requires.begun has c.run_body.ensures.frame c.run_body.ensures.after c.law_fit.ensures c.run_body.ensures.inputs
