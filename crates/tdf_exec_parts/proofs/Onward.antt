-- Whether a cluster can go on from a state.
use Rattle.std.proofs.Common.{◌≡◌, ◌∙◌, ◌⊎◌, inl, inr, ℕ, List, refl, sym, ap, subst}
use Rattle.std.specs.Prelude.{Contains, Err, IfOk, Ok, Result}
use Rattle.tdf_balance.specs.Laws.{AnswersExclude, CountsAreUnique}
use Rattle.tdf_bind.specs.declared.model.Flat.{Flat}
use Rattle.tdf_exec_layout.specs.Below.{AreAttributes, AreWithinLimits}
use Rattle.tdf_dynamic_first.proofs.Api.{net_clusters, net_fit}
use Rattle.tdf_dynamic_plans.proofs.Api.{plan_once}
use Rattle.tdf_dynamic_plans.specs.Attributes.{AttrsOf, clusters_of}
use Rattle.tdf_dynamic_first.specs.Text.{first_table}
use Rattle.tdf_dynamic_first.specs.declared.first.First.{First}
use Rattle.tdf_dynamic_plans.specs.Faults.{IsTablePlan}
use Rattle.tdf_dynamic_plans.specs.Known.{AreTrueFor}
use Rattle.tdf_dynamic_plans.specs.Rates.{net_of}
use Rattle.tdf_dynamic_plans.specs.Same.{AreSamePlans}
use Rattle.tdf_dynamic_values.specs.Laws.{ValuesAreOfOne}
use Rattle.tdf_dynamic_values.specs.Planned.{IsTableFirst}
use Rattle.tdf_dynamic_values.specs.States.{IsTableOfStates, state_flags, state_rates, state_steps}
use Rattle.tdf_exec_parts.specs.States.{AreStatesOfRows, HoldEdges, IsInPeriod, IsStateAt, IsStateUnder, due_before}
use Rattle.tdf_exec_parts.specs.declared.judging.Standing.{Standing}
use Rattle.tdf_saved.specs.State.{ClusterStateOf, ModuleStateOf}
use Rattle.tdf_saved.specs.declared.err.StateErr.{StateErr}
use Rattle.tdf_saved.specs.declared.err.StateErr.TheVariants.{Bad, Memory}
use Rattle.tdf_schedule.specs.Laws.{BoundsAreUnique, PlansAreUnique}
use Rattle.tdf_schedule.specs.declared.entry.Entry.{Entry}
use Rattle.tdf_schedule.specs.declared.entry.Plan.{Plan}
use Rattle.tdf_exec_layout.proofs.Api.{are_rates, is_wired}

-- a state is one under the one table and the one plan that it says
module _ (flat : Flat) (cluster : ℕ) (limits : AreWithinLimits flat) (has : Contains (clusters_of flat.tables) cluster) (answers : AnswersExclude) (unique : CountsAreUnique)
    (plans : PlansAreUnique) (bounds : BoundsAreUnique) (law : ValuesAreOfOne) where
  one_plan : (table : List AttrsOf) → AreAttributes flat cluster table → (one other : Plan) → IsTablePlan flat.tables cluster table one → IsTablePlan flat.tables cluster table other → AreSamePlans one other
  one_plan table attributes one other p q =
      let wired = is_wired flat limits in let rates = are_rates flat limits table attributes.allowed in
      plan_once flat.tables (net_of flat.tables table) cluster table answers unique (net_fit flat.tables table wired rates) (net_clusters flat.tables table wired rates) has plans bounds one other p q

  module _ (s : ClusterStateOf) (time : ℕ) (table : List AttrsOf) (plan : Plan) (own : IsTableOfStates flat cluster s.modules table) (planned : IsTablePlan flat.tables cluster table plan) where
    abbrev Fits : List AttrsOf → List Entry → ℕ → Type 0
    Fits t entries period = IsInPeriod s.start time period × HoldEdges flat.tables cluster t entries (due_before s.start time entries) s.edges

    pub same_fits : IsStateAt flat cluster s time → Fits table plan.entries.items plan.period
    same_fits at =
        let same : at.table ≡ table = law flat cluster (state_flags s.modules) (state_rates s.modules) (state_steps s.modules) at.table table
        at.is.table_is.attributes at.is.table_is.holds own.attributes own.holds in
        let p : AreSamePlans at.plan plan = one_plan table own.attributes at.plan plan (subst (λ (t : List AttrsOf). IsTablePlan flat.tables cluster t at.plan) same at.is.planned) planned in
        subst (λ n. Fits table plan.entries.items n) p.period
        (subst (λ l. Fits table l at.plan.period) p.entries
        (subst (λ (t : List AttrsOf). Fits t at.plan.entries.items at.plan.period) same (at.is.inside, at.is.edges)))

-- the same is said of equal lists of modules
module _ (flat : Flat) (cluster : ℕ) (modules said : List ModuleStateOf) (same : modules ≡ said) where
  pub states_same : AreStatesOfRows flat (first_table flat cluster) modules → AreStatesOfRows flat (first_table flat cluster) said
  states_same are = subst (AreStatesOfRows flat (first_table flat cluster)) same are

  pub table_same : (table : List AttrsOf) → IsTableOfStates flat cluster modules table → IsTableOfStates flat cluster said table
  table_same table is = subst (λ (l : List ModuleStateOf). IsTableOfStates flat cluster l table) same is

-- what is found for the table and the plan that a state says is found for the state
module _ (flat : Flat) (cluster : ℕ) (s : ClusterStateOf) (time : ℕ) where
  abbrev pub IsUnder : Standing → Type 0
  IsUnder x = IsStateUnder flat cluster s time x.first.attrs.rows x.first.plan

  module _ (first : First) (states : AreStatesOfRows flat (first_table flat cluster) s.modules) (own : IsTableOfStates flat cluster s.modules first.attrs.rows)
      (is : IsTableFirst flat cluster first.attrs.rows first) where
    pub stands_under : (result : Result Standing StateErr) → IfOk result (λ x. x.first ≡ first) → IfOk result (λ x. IsInPeriod s.start time first.plan.period)
        → IfOk result (λ x. HoldEdges flat.tables cluster first.attrs.rows first.plan.entries.items (due_before s.start time first.plan.entries.items) s.edges) → IfOk result IsUnder
    stands_under (Ok x) same inside edges = subst (λ (f : First). IsStateUnder flat cluster s time f.attrs.rows f.plan) (sym same)
        (record { modules = states; table_is = own; planned = is.plan_is; inside = inside; edges = edges })
    stands_under (Err why) same inside edges = tt

    pub placed_under : (result : Result Standing StateErr) → IfOk result (λ x. x.first ≡ first) → IfOk result (λ x. x.place ≡ due_before s.start time first.plan.entries.items)
        → IfOk result (λ x. x.place ≡ due_before s.start time x.first.plan.entries.items)
    placed_under (Ok x) same place = place ∙ ap (λ (f : First). due_before s.start time f.plan.entries.items) (sym same)
    placed_under (Err why) same place = tt

    pub known_under : (result : Result Standing StateErr) → IfOk result (λ x. x.first ≡ first) → IfOk result (λ x. AreTrueFor flat.tables cluster x.first.attrs.known.plans)
    known_under (Ok x) same = subst (λ (f : First). AreTrueFor flat.tables cluster f.attrs.known.plans) (sym same) is.known
    known_under (Err why) same = tt

  pub refused_or : (result : Result Standing StateErr) (why : StateErr) → result ≡ Err why → (result ≡ Err Bad) ⊎ (result ≡ Err Memory)
  refused_or result Bad is = inl is
  refused_or result Memory is = inr is

  pub none_stands : (result : Result Standing StateErr) → IfOk result IsUnder → (IsStateAt flat cluster s time → ⊥) → (result ≡ Err Bad) ⊎ (result ≡ Err Memory)
  none_stands (Ok x) is none = absurd (none (record { table = x.first.attrs.rows; plan = x.first.plan; is = is }))
  none_stands (Err why) is none = refused_or (Err why) why refl
