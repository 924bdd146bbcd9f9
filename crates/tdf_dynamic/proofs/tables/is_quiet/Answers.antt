use Rattle.std.proofs.Common.{rules, ◌≡◌, ◌∙◌, Some, ap, false, refl}
use Rattle.std.specs.Prelude.{slice_get}
use Rattle.tdf_dynamic.proofs.Rows.{row_at}
use Rattle.tdf_dynamic_plans.specs.Attributes.{AttrsOf}
use Rattle.tdf_streams.specs.Places.{changes_row}
use Rattle.tdf_dynamic.proofs.tables.is_quiet.Goals as goal

pub returns-then-not-row : goal.returns-then-not-row
returns-then-not-row c =
    let at : slice_get c.args.flat.now.tables.modules c.args.attrs.now.number ≡ Some c.index-row.result.now =
    row_at _ c.args.flat.now c.flat.view_is _ c.args.attrs.now.number c.index-row.result.now (ap (λ (x : AttrsOf). x.number) c.attrs.view_is) c.requires.tells.is_module c.index-row.ensures in
    let none : c.index-row.result.now.changes ≡ false = search rules in
    ((λ is. c.requires.tells.quiet (ap changes_row at ∙ none)), (λ quiet. refl))
