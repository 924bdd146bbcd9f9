-- How a new table is judged.
use Rattle.std.proofs.Common.{◌≡◌, ◌∙◌, ℕ, List, Some, length, refl, sym, ap, subst}
use Rattle.std.proofs.lemmas.Option.{same_Some, slice_get_within}
use Rattle.std.specs.Prelude.{All, Contains, Result, Ok, Err, IfErr, slice_index_or}
use Rattle.tdf_balance.specs.Laws.{AnswersExclude, CountsAreUnique}
use Rattle.tdf_base.specs.declared.codes.Code.{Code}
use Rattle.tdf_base.specs.declared.codes.Code.TheVariants as code
use Rattle.tdf_base.specs.declared.faults.Fault.{Fault}
use Rattle.tdf_bind_tables.specs.FlatTables.{FlatTablesOf}
use Rattle.tdf_dynamic.proofs.Rows.{get_read}
use Rattle.tdf_dynamic.specs.Change.{fault_of_row}
use Rattle.tdf_dynamic.specs.Given.{IsPlanned}
use Rattle.tdf_dynamic.specs.declared.frames.ModuleFrame.{ModuleFrame}
use Rattle.tdf_dynamic.specs.machine.Judging.{InPlan, InRejected, InSteps, IsJudged, IsJudgedFault, IsRejection, IsUnrejected}
use Rattle.tdf_dynamic.specs.machine.Rows.{HoldsBelow, IsFirstPlace, IsRefusing, TakeAll}
use Rattle.tdf_dynamic_plans.proofs.Api.{fault_apart, plan_same, true_at}
use Rattle.tdf_streams.proofs.Api.{net_clusters, net_fit}
use Rattle.tdf_dynamic_plans.specs.Attributes.{AttrsOf, IsOfCluster, clusters_of}
use Rattle.tdf_dynamic_plans.specs.Known.{AreTrueFor, HasSameItems, IsKnownAt, PlansOf, table_key}
use Rattle.tdf_dynamic_plans.specs.Faults.{HasTiming, IsPlanFault, IsPlanOf, IsRefusal, IsStepsFault, OfTiming}
use Rattle.tdf_dynamic_plans.specs.Rates.{AreRates, IsWired, net_of, net_ports}
use Rattle.tdf_dynamic_plans.specs.declared.err.ChangeErr.{ChangeErr}
use Rattle.tdf_dynamic_plans.specs.declared.err.ChangeErr.TheVariants.{Refused, Memory}
use Rattle.tdf_graph.specs.declared.actors.Port.{Port}
use Rattle.tdf_schedule.specs.declared.entry.Plan.{Plan}
use Rattle.tdf_timestep.specs.declared.assign.Steps.{Steps}

pub refusal_weaker : (P Q : Fault → Type 0) → ((f : Fault) → P f → Q f) → (e : ChangeErr) → IsRefusal P e → IsRefusal Q e
refusal_weaker P Q to (Refused fault) is = to fault is
refusal_weaker P Q to Memory is = tt

pub all_weaker : {A : Type 0} (P Q : Fault → Type 0) → ((f : Fault) → P f → Q f) → (r : Result A ChangeErr) → IfErr r (IsRefusal P) → IfErr r (IsRefusal Q)
all_weaker P Q to (Ok x) is = tt
all_weaker P Q to (Err e) is = refusal_weaker P Q to e is

-- the fault that the first row is told of
abbrev pub IsToldFirst : (P : AttrsOf → ModuleFrame → Type 0) → FlatTablesOf → Code → List AttrsOf → List ModuleFrame → Fault → Type 0
IsToldFirst P tables why table frames fault = (k : ℕ) × (first : IsFirstPlace P table frames k) × (fault_of_row tables why first.one ≡ Some fault)

pub told_first : (P : AttrsOf → ModuleFrame → Type 0) (tables : FlatTablesOf) (why : Code) (table : List AttrsOf) (frames : List ModuleFrame) (k : ℕ) (row : AttrsOf) → IsFirstPlace P table frames k
    → row ≡ slice_index_or table k row → (e : ChangeErr) → IsRefusal (λ fault. fault_of_row tables why row ≡ Some fault) e → IsRefusal (IsToldFirst P tables why table frames) e
told_first P tables why table frames k row first read e is =
    let at = get_read table k row (slice_get_within table k first.one first.one_at) read in
    let same : first.one ≡ row = same_Some first.one row (sym first.one_at ∙ at) in
    refusal_weaker (λ fault. fault_of_row tables why row ≡ Some fault) (IsToldFirst P tables why table frames) (λ fault told. (k, first, ap (fault_of_row tables why) same ∙ told)) e is

-- a table that has a plan has no fault of counts and steps
pub old_fails : (answers : AnswersExclude) (unique : CountsAreUnique) (tables : FlatTablesOf) (cluster : ℕ) (table : List AttrsOf) → IsWired tables → Contains (clusters_of tables) cluster → AreRates tables table
    → IsPlanned tables cluster table → (Q : Fault → Type 0) (e : ChangeErr) → IsRefusal (IsStepsFault tables (net_of tables table) cluster table) e → IsRefusal Q e
old_fails answers unique tables cluster table wired has rates planned Q e =
    refusal_weaker (IsStepsFault tables (net_of tables table) cluster table) Q
    (λ f p. absurd (fault_apart tables (net_of tables table) cluster table answers unique (net_fit tables table wired rates) (net_clusters tables table wired rates) has f planned.plan
    (OfTiming p) planned.is)) e

-- from the rates and steps that are compared to what no module rejects, and to the first that one does
module _ (tables : FlatTablesOf) (cluster : ℕ) (table : List AttrsOf) (frames : List ModuleFrame) (counts : List ℕ) (steps : Steps)
    (timing : HasTiming tables (net_of tables table) cluster table counts steps) (ports : List Port) (new : Steps) where
  pub unrejected_is : HoldsBelow (λ attrs f. IsRefusing (net_ports tables table) ports steps new attrs f → ⊥) table frames (length table) → IsUnrejected tables cluster table frames ports new
  unrejected_is none = record { before = record { counts = counts; steps = steps; timing = timing }; none = none }

  pub rejection_is : (fault : Fault) → IsToldFirst (IsRefusing (net_ports tables table) ports steps new) tables code.Rejected table frames fault → IsRejection tables cluster table frames ports new fault
  rejection_is fault told = record { before = record { counts = counts; steps = steps; timing = timing }; place = told.0; first = told.1; told = told.2 }

-- what comes of a new table with these counts and steps
module _ (tables : FlatTablesOf) (cluster : ℕ) (table new : List AttrsOf) (frames : List ModuleFrame) (counts : List ℕ) (steps : Steps)
    (timing : HasTiming tables (net_of tables new) cluster new counts steps) where
  pub judged_is : IsUnrejected tables cluster table frames (net_ports tables new) steps → (plan : Plan) → IsPlanOf (net_of tables new) counts steps plan → IsJudged tables cluster table new frames plan
  judged_is un plan is =
      record { times = record { before = un.before; after = record { counts = counts; steps = steps; timing = timing } }; none = un.none; plan_is = is }

  pub plan_refused : IsUnrejected tables cluster table frames (net_ports tables new) steps → (fault : Fault) → IsPlanFault tables (net_of tables new) new counts steps fault
      → IsJudgedFault tables cluster table new frames fault
  plan_refused un fault is = InPlan (record { before = un.before; after = record { counts = counts; steps = steps; timing = timing } }) un.none is

  pub change_refused : (fault : Fault) → IsRejection tables cluster table frames (net_ports tables new) steps fault → IsJudgedFault tables cluster table new frames fault
  change_refused fault is =
      InRejected (record { before = is.before; after = record { counts = counts; steps = steps; timing = timing } }) (record { place = is.place; first = is.first; told = is.told })

-- what comes of a new table that is known at a place
module _ (tables : FlatTablesOf) (cluster : ℕ) (table new : List AttrsOf) (frames : List ModuleFrame) (known : PlansOf) (place : ℕ)
    (here : IsKnownAt known.plans (table_key new) place) (are : AreTrueFor tables cluster known.plans) (own : All (IsOfCluster tables cluster) new) (steps : Steps) (same : steps ≡ here.0.steps) where
  timing_known : HasTiming tables (net_of tables new) cluster new here.0.counts here.0.steps
  timing_known = (true_at tables cluster known.plans place here.0 are here.1).timing new own (sym here.2)

  pub known_judged : IsUnrejected tables cluster table frames (net_ports tables new) steps → (plan : Plan) → HasSameItems here.0.plan plan → IsJudged tables cluster table new frames plan
  known_judged un plan items =
      judged_is tables cluster table new frames here.0.counts here.0.steps timing_known (subst (λ (s : Steps). IsUnrejected tables cluster table frames (net_ports tables new) s) same un) plan
      (plan_same (net_of tables new) here.0.counts here.0.steps here.0.steps refl here.0.plan plan refl items ((true_at tables cluster known.plans place here.0 are here.1).plan_is new own (sym here.2)))

  pub known_refused : (e : ChangeErr) → IsRefusal (IsRejection tables cluster table frames (net_ports tables new) steps) e → IsRefusal (IsJudgedFault tables cluster table new frames) e
  known_refused e is =
      refusal_weaker (IsRejection tables cluster table frames (net_ports tables new) here.0.steps) (IsJudgedFault tables cluster table new frames)
      (change_refused tables cluster table new frames here.0.counts here.0.steps timing_known) e
      (subst (λ (s : Steps). IsRefusal (IsRejection tables cluster table frames (net_ports tables new) s) e) same is)

-- where no module can reject, none does
pub none_rejects : (tables : FlatTablesOf) (cluster : ℕ) (table : List AttrsOf) (frames : List ModuleFrame) → IsPlanned tables cluster table → TakeAll table frames → (ports : List Port) (new : Steps)
    → IsUnrejected tables cluster table frames ports new
none_rejects tables cluster table frames planned takes ports new = record {
  before = record { counts = planned.is.counts; steps = planned.is.steps; timing = planned.is.timing };
  none = λ j x y below at there. takes j x y below at there (net_ports tables table) ports planned.is.steps new;
}

pub steps_refused : (tables : FlatTablesOf) (cluster : ℕ) (table new : List AttrsOf) (frames : List ModuleFrame) (e : ChangeErr)
    → IsRefusal (IsStepsFault tables (net_of tables new) cluster new) e → IsRefusal (IsJudgedFault tables cluster table new frames) e
steps_refused tables cluster table new frames e =
    refusal_weaker (IsStepsFault tables (net_of tables new) cluster new) (IsJudgedFault tables cluster table new frames) (λ f p. InSteps p) e
