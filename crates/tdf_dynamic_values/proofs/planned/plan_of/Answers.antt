use Rattle.std.proofs.Common.{◌∙◌, List, sym, subst}
use Rattle.std.specs.Prelude.{Ok, Err}
use Rattle.tdf_dynamic_plans.proofs.Api.{known_same, rows_same}
use Rattle.tdf_dynamic_plans.specs.Attributes.{AttrsOf}
use Rattle.tdf_dynamic_plans.specs.Faults.{IsRefusal, IsTableFault, IsTablePlan}
use Rattle.tdf_dynamic_plans.specs.Known.{AreTrueFor, HasTablePlanned, PlansOf}
use Rattle.tdf_dynamic_plans.specs.Rates.{AreRates}
use Rattle.tdf_dynamic_values.proofs.Once.{first_always, first_is, refused_always}
use Rattle.tdf_streams.proofs.Api.{are_rates}
use Rattle.tdf_dynamic_values.proofs.planned.plan_of.Goals as goal

pub table_plan-requires-clause-rates : goal.table_plan-requires-clause-rates
table_plan-requires-clause-rates c = subst (AreRates c.args.flat.now.tables) (sym (c.deref.ensures.value ∙ rows_same c.attrs.view_is)) (are_rates c.args.flat.now c.requires.limits c.args.attrs.rows c.requires.attributes.allowed)

pub table_plan-requires-clause-known : goal.table_plan-requires-clause-known
table_plan-requires-clause-known c = subst (λ (s : PlansOf). AreTrueFor c.args.flat.now.tables c.args.cluster s.plans) (sym (known_same c.attrs.view_is)) c.requires.known

pub returns-in-Ok-clause-first : goal.returns-in-Ok-clause-first
returns-in-Ok-clause-first c = first_is c.args.flat.now c.args.cluster c.args.attrs.rows c.requires.attributes c.attrs.inside.rows.items c.in-Ok.plan c.attrs.inside.known c.table_plan.new.known (rows_same c.attrs.view_is)
    (subst (λ (s : PlansOf). AreTrueFor c.args.flat.now.tables c.args.cluster s.plans) (sym (known_same c.attrs.view_is)) c.requires.known)
    (subst (λ (t : List AttrsOf). IsTablePlan c.args.flat.now.tables c.args.cluster t c.in-Ok.plan) (c.deref.ensures.value ∙ rows_same c.attrs.view_is) c.in-Ok.ensures.plan)
    (subst (λ (t : List AttrsOf). HasTablePlanned c.args.flat.now.tables c.args.cluster t c.in-Ok.plan c.attrs.inside.known c.table_plan.new.known) (c.deref.ensures.value ∙ rows_same c.attrs.view_is) c.in-Ok.ensures.planned)

pub returns-in-Ok-clause-refused_always : goal.returns-in-Ok-clause-refused_always
returns-in-Ok-clause-refused_always c = refused_always c.args.flat.now c.args.cluster c.args.attrs.rows c.requires.attributes c.law_counts.ensures.apart c.law_counts.ensures.unique c.requires.limits c.requires.has
    (Ok (record { attrs = record { rows = c.attrs.inside.rows.items; known = c.table_plan.new.known }; plan = c.in-Ok.plan }))
    (subst (λ (t : List AttrsOf). IsTablePlan c.args.flat.now.tables c.args.cluster t c.in-Ok.plan) (c.deref.ensures.value ∙ rows_same c.attrs.view_is) c.in-Ok.ensures.plan) tt

pub returns-in-Err-clause-refused_always : goal.returns-in-Err-clause-refused_always
returns-in-Err-clause-refused_always c = refused_always c.args.flat.now c.args.cluster c.args.attrs.rows c.requires.attributes c.law_counts.ensures.apart c.law_counts.ensures.unique c.requires.limits c.requires.has
    (Err c.in-Err.refused) tt
    (subst (λ (t : List AttrsOf). IsRefusal (IsTableFault c.args.flat.now.tables c.args.cluster t) c.in-Err.refused) (c.deref.ensures.value ∙ rows_same c.attrs.view_is) c.in-Err.ensures.refused)

pub returns-in-Err-clause-first_always : goal.returns-in-Err-clause-first_always
returns-in-Err-clause-first_always c = first_always c.args.flat.now c.args.cluster c.args.attrs.rows c.requires.attributes c.law_counts.ensures.apart c.law_counts.ensures.unique c.requires.limits c.requires.has
    (Err c.in-Err.refused)
    (subst (λ (t : List AttrsOf). IsRefusal (IsTableFault c.args.flat.now.tables c.args.cluster t) c.in-Err.refused) (c.deref.ensures.value ∙ rows_same c.attrs.view_is) c.in-Err.ensures.refused)
