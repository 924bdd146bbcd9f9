-- A table of a cluster has one fault or one plan, and which answer comes.
use Rattle.std.proofs.Common.{◌≡◌, ℕ, List, refl, ap, subst, sym, inl, inr, ◌⊎◌}
use Rattle.std.specs.Prelude.{Contains, Result, Ok, Err, IsOk, IfOk, IfErr}
use Rattle.tdf_balance.specs.Laws.{AnswersExclude, CountsAreUnique}
use Rattle.tdf_base.specs.declared.faults.Fault.{Fault}
use Rattle.tdf_bind.specs.declared.model.Flat.{Flat}
use Rattle.tdf_streams.specs.Below.{AreWithinLimits}
use Rattle.tdf_dynamic_first.proofs.Api.{net_clusters, net_fit}
use Rattle.tdf_dynamic_first.specs.declared.first.First.{First}
use Rattle.tdf_dynamic_plans.proofs.Api.{fault_apart, fault_once, planned_true}
use Rattle.tdf_dynamic_plans.specs.Attributes.{AttrsOf, clusters_of}
use Rattle.tdf_dynamic_plans.specs.Faults.{IsRefusal, IsTableFault, IsTablePlan}
use Rattle.tdf_dynamic_plans.specs.Known.{AreTrueFor, HasTablePlanned, PlansOf}
use Rattle.tdf_dynamic_plans.specs.Rates.{AreRates, IsWired, net_of}
use Rattle.tdf_dynamic_plans.specs.declared.err.ChangeErr.{ChangeErr}
use Rattle.tdf_dynamic_plans.specs.declared.err.ChangeErr.TheVariants.{Memory, Refused}
use Rattle.tdf_dynamic_values.specs.Planned.{IsTableFirst}
use Rattle.tdf_schedule.specs.declared.entry.Plan.{Plan}
use Rattle.tdf_streams.proofs.Api.{are_rates, is_wired}
use Rattle.tdf_streams.specs.Periods.{AreAttributes}

module _ (flat : Flat) (cluster : ℕ) (table : List AttrsOf) (attributes : AreAttributes flat cluster table) where
  -- the table with its plan, found by a store that is true
  pub first_is : (rows : List AttrsOf) (plan : Plan) (old new : PlansOf) → rows ≡ table → AreTrueFor flat.tables cluster old.plans → IsTablePlan flat.tables cluster table plan
      → HasTablePlanned flat.tables cluster table plan old new → IsTableFirst flat cluster table (record { attrs = record { rows = rows; known = new }; plan = plan })
  first_is rows plan old new same are is planned = record {
    attrs_are = same;
    attributes = subst (AreAttributes flat cluster) (sym same) attributes;
    plan_is = is;
    known = planned_true flat.tables cluster table plan old new attributes.own are planned;
  }

  module _ (answers : AnswersExclude) (unique : CountsAreUnique) (limits : AreWithinLimits flat) (has : Contains (clusters_of flat.tables) cluster) where
    wired : IsWired flat.tables
    wired = is_wired flat limits

    rates : AreRates flat.tables table
    rates = are_rates flat limits table attributes.allowed

    one_fault : (f g : Fault) → IsTableFault flat.tables cluster table f → IsTableFault flat.tables cluster table g → f ≡ g
    one_fault f g p q = fault_once flat.tables (net_of flat.tables table) cluster table answers unique (net_fit flat.tables table wired rates) (net_clusters flat.tables table wired rates) has f g p q

    fault_or_plan : (f : Fault) (plan : Plan) → IsTableFault flat.tables cluster table f → IsTablePlan flat.tables cluster table plan → ⊥
    fault_or_plan f plan p q = fault_apart flat.tables (net_of flat.tables table) cluster table answers unique (net_fit flat.tables table wired rates) (net_clusters flat.tables table wired rates) has f plan p q

    pub refused_always : (r : Result First ChangeErr) → IfOk r (λ first. IsTablePlan flat.tables cluster table first.plan) → IfErr r (IsRefusal (IsTableFault flat.tables cluster table))
        → (fault : Fault) → IsTableFault flat.tables cluster table fault → (r ≡ Err (Refused fault)) ⊎ (r ≡ Err Memory)
    refused_always (Ok first) good bad fault is = absurd (fault_or_plan fault first.plan is good)
    refused_always (Err (Refused other)) good bad fault is = inl (ap (λ (f : Fault). Err (Refused f)) (one_fault other fault bad is))
    refused_always (Err Memory) good bad fault is = inr refl

    pub first_always : (r : Result First ChangeErr) → IfErr r (IsRefusal (IsTableFault flat.tables cluster table)) → (plan : Plan) → IsTablePlan flat.tables cluster table plan → IsOk r ⊎ (r ≡ Err Memory)
    first_always (Ok other) bad plan is = inl refl
    first_always (Err (Refused fault)) bad plan is = absurd (fault_or_plan fault plan bad is)
    first_always (Err Memory) bad plan is = inr refl
