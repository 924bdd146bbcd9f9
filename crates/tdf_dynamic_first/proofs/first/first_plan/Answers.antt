use Rattle.std.proofs.Common.{◌∙◌, ap, sym, subst}
use Rattle.std.specs.Prelude.{All, List, Ok, Err}
use Rattle.tdf_dynamic_first.proofs.Firsts.{first_always, first_is, none_true, refused_always}
use Rattle.tdf_dynamic_plans.proofs.Api.{known_same, rows_same}
use Rattle.tdf_dynamic_first.proofs.Tables.{table_is, rates_are}
use Rattle.tdf_dynamic_plans.specs.Attributes.{AttrsOf, IsOfCluster}
use Rattle.tdf_dynamic_plans.specs.Faults.{IsTableFault, IsTablePlan, IsRefusal}
use Rattle.tdf_dynamic_first.specs.Text.{none_known}
use Rattle.tdf_dynamic_plans.specs.Known.{HasTablePlanned}
use Rattle.tdf_dynamic_plans.specs.Rates.{AreRates}
use Rattle.tdf_dynamic_first.proofs.first.first_plan.Goals as goal

pub table_plan-requires-clause-table : goal.table_plan-requires-clause-table
table_plan-requires-clause-table c = subst (All (IsOfCluster c.args.flat.now.tables c.args.cluster)) (sym (c.deref.ensures.value ∙ rows_same c.attrs.view_is ∙ c.in_ok-attrs.ensures.rows)) (table_is c.args.flat.now c.args.cluster c.requires.plannable)

pub table_plan-requires-clause-rates : goal.table_plan-requires-clause-rates
table_plan-requires-clause-rates c = subst (AreRates c.args.flat.now.tables) (sym (c.deref.ensures.value ∙ rows_same c.attrs.view_is ∙ c.in_ok-attrs.ensures.rows)) (rates_are c.args.flat.now c.args.cluster c.requires.plannable.rates)

pub table_plan-requires-clause-known : goal.table_plan-requires-clause-known
table_plan-requires-clause-known c = none_true c.args.flat.now c.args.cluster c.requires.plannable c.attrs.inside.rows.items c.attrs.inside.known (rows_same c.attrs.view_is ∙ c.in_ok-attrs.ensures.rows) (known_same c.attrs.view_is ∙ c.in_ok-attrs.ensures.known ∙ ap (none_known c.args.flat.now.tables) c.in_ok-attrs.ensures.rows)

pub returns-in-Ok-clause-first : goal.returns-in-Ok-clause-first
returns-in-Ok-clause-first c = first_is c.args.flat.now c.args.cluster c.requires.plannable c.attrs.inside.rows.items c.attrs.inside.known (rows_same c.attrs.view_is ∙ c.in_ok-attrs.ensures.rows) (known_same c.attrs.view_is ∙ c.in_ok-attrs.ensures.known ∙ ap (none_known c.args.flat.now.tables) c.in_ok-attrs.ensures.rows)
    c.in-Ok.plan c.table_plan.new.known
    (subst (λ (t : List AttrsOf). IsTablePlan c.args.flat.now.tables c.args.cluster t c.in-Ok.plan) c.deref.ensures.value c.in-Ok.ensures.plan)
    (subst (λ (t : List AttrsOf). HasTablePlanned c.args.flat.now.tables c.args.cluster t c.in-Ok.plan c.attrs.inside.known c.table_plan.new.known) c.deref.ensures.value c.in-Ok.ensures.planned)

pub returns-in-Ok-clause-refused_always : goal.returns-in-Ok-clause-refused_always
returns-in-Ok-clause-refused_always c = refused_always c.law_one_plan.ensures c.args.flat.now c.args.cluster (record { plannable = c.requires.plannable; has = c.requires.has })
    (Ok (record { attrs = record { rows = c.attrs.inside.rows.items; known = c.table_plan.new.known }; plan = c.in-Ok.plan })) (first_is c.args.flat.now c.args.cluster c.requires.plannable c.attrs.inside.rows.items c.attrs.inside.known (rows_same c.attrs.view_is ∙ c.in_ok-attrs.ensures.rows) (known_same c.attrs.view_is ∙ c.in_ok-attrs.ensures.known ∙ ap (none_known c.args.flat.now.tables) c.in_ok-attrs.ensures.rows)
    c.in-Ok.plan c.table_plan.new.known
    (subst (λ (t : List AttrsOf). IsTablePlan c.args.flat.now.tables c.args.cluster t c.in-Ok.plan) c.deref.ensures.value c.in-Ok.ensures.plan)
    (subst (λ (t : List AttrsOf). HasTablePlanned c.args.flat.now.tables c.args.cluster t c.in-Ok.plan c.attrs.inside.known c.table_plan.new.known) c.deref.ensures.value c.in-Ok.ensures.planned)) tt

pub returns-in-Err-clause-refused : goal.returns-in-Err-clause-refused
returns-in-Err-clause-refused c = subst (λ (t : List AttrsOf). IsRefusal (IsTableFault c.args.flat.now.tables c.args.cluster t) c.in-Err.refused) (c.deref.ensures.value ∙ rows_same c.attrs.view_is ∙ c.in_ok-attrs.ensures.rows) c.in-Err.ensures.refused

pub returns-in-Err-clause-refused_always : goal.returns-in-Err-clause-refused_always
returns-in-Err-clause-refused_always c = refused_always c.law_one_plan.ensures c.args.flat.now c.args.cluster (record { plannable = c.requires.plannable; has = c.requires.has })
    (Err c.in-Err.refused) tt
    (subst (λ (t : List AttrsOf). IsRefusal (IsTableFault c.args.flat.now.tables c.args.cluster t) c.in-Err.refused) (c.deref.ensures.value ∙ rows_same c.attrs.view_is ∙ c.in_ok-attrs.ensures.rows) c.in-Err.ensures.refused)

pub returns-in-Err-clause-first_always : goal.returns-in-Err-clause-first_always
returns-in-Err-clause-first_always c = first_always c.law_one_plan.ensures c.args.flat.now c.args.cluster (record { plannable = c.requires.plannable; has = c.requires.has })
    (Err c.in-Err.refused)
    (subst (λ (t : List AttrsOf). IsRefusal (IsTableFault c.args.flat.now.tables c.args.cluster t) c.in-Err.refused) (c.deref.ensures.value ∙ rows_same c.attrs.view_is ∙ c.in_ok-attrs.ensures.rows) c.in-Err.ensures.refused)
