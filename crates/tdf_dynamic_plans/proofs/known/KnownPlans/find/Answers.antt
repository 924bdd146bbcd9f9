use Rattle.std.proofs.Common.{◌≡◌, ◌∙◌, List, ap, subst, sym}
use Rattle.tdf_dynamic_plans.specs.Known.{IsKnown, KnownOf, PlansOf, table_key}
use Rattle.tdf_dynamic_plans.proofs.known.KnownPlans.find.Goals as goal

pub returns-clause-none : goal.returns-clause-none
returns-clause-none c =
    let plans_are : c.deref.result.now ≡ c.args.self.now.plans = c.deref.ensures.value ∙ ap (λ (s : PlansOf). s.plans) c.self.view_is in
    λ none known. c.found_in.ensures.none none (subst (λ (l : List KnownOf). IsKnown l (table_key c.args.table.now)) (sym plans_are) known)
