use Rattle.std.proofs.Common.{◌∙◌, ap, length, sym}
use Rattle.std.specs.List.{sum_by}
use Rattle.tdf_dynamic_first.specs.Text.{none_known}
use Rattle.tdf_dynamic_plans.proofs.Api.{known_same, rows_same}
use Rattle.tdf_dynamic_plans.specs.Attributes.{AttrsOf}
use Rattle.tdf_dynamic_values.proofs.Holding.{new_attributes, new_holds, new_known, rates_many, rows_by_same}
use Rattle.tdf_streams.proofs.Api.{is_plannable}
use Rattle.tdf_dynamic_values.proofs.values.from_values.Goals as goal

pub first_table-requires-clause-plannable : goal.first_table-requires-clause-plannable
first_table-requires-clause-plannable c = is_plannable c.args.flat.now c.requires.limits

pub rows_by-requires-clause-rates : goal.rows_by-requires-clause-rates
rows_by-requires-clause-rates c =
    ap length c.deref-3.ensures.value
    ∙ rates_many c.args.flat.now c.args.cluster c.requires.limits c.args.accepts.items c.args.rates.items c.args.steps.items c.requires.values
    ∙ ap (sum_by (λ (row : AttrsOf). length row.rates)) (sym (c.deref.ensures.value ∙ rows_same c.text.view_is ∙ c.in_ok-text.ensures.rows))

pub returns-in-Ok-clause-values : goal.returns-in-Ok-clause-values
returns-in-Ok-clause-values c = new_holds c.args.flat.now c.args.cluster c.requires.limits c.args.accepts.items c.args.rates.items c.args.steps.items c.requires.values c.new.result.rows
    (rows_same c.new.ensures.table ∙ c.in-Ok.ensures ∙ rows_by_same _ _ _ _ _ _ _ _ (c.deref.ensures.value ∙ rows_same c.text.view_is ∙ c.in_ok-text.ensures.rows) c.deref-2.ensures.value c.deref-3.ensures.value c.deref-4.ensures.value)

pub returns-in-Ok-clause-attributes : goal.returns-in-Ok-clause-attributes
returns-in-Ok-clause-attributes c = new_attributes c.args.flat.now c.args.cluster c.requires.limits c.args.accepts.items c.args.rates.items c.args.steps.items c.requires.values c.new.result.rows
    (rows_same c.new.ensures.table ∙ c.in-Ok.ensures ∙ rows_by_same _ _ _ _ _ _ _ _ (c.deref.ensures.value ∙ rows_same c.text.view_is ∙ c.in_ok-text.ensures.rows) c.deref-2.ensures.value c.deref-3.ensures.value c.deref-4.ensures.value)

pub returns-in-Ok-clause-known : goal.returns-in-Ok-clause-known
returns-in-Ok-clause-known c =
    known_same c.new.ensures.table ∙ known_same c.text.view_is ∙ c.in_ok-text.ensures.known ∙ ap (none_known c.args.flat.now.tables) c.in_ok-text.ensures.rows
    ∙ new_known c.args.flat.now c.args.cluster c.requires.limits c.args.accepts.items c.args.rates.items c.args.steps.items c.requires.values c.new.result.rows
    (rows_same c.new.ensures.table ∙ c.in-Ok.ensures ∙ rows_by_same _ _ _ _ _ _ _ _ (c.deref.ensures.value ∙ rows_same c.text.view_is ∙ c.in_ok-text.ensures.rows) c.deref-2.ensures.value c.deref-3.ensures.value c.deref-4.ensures.value)
