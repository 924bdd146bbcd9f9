-- Of the answers of a boundary there is at most one.
use Rattle.std.proofs.Common.{◌≡◌, ◌∙◌, ℕ, ◌<◌, ◌≤◌, ◌/◌, ◌⊎◌, false, List, Some, length, sym, ap, subst, inl, inr, arith}
use Rattle.std.proofs.lemmas.Bool.{cases_lt}
use Rattle.std.proofs.lemmas.Option.{get_or_from_slice_get, same_Some, slice_get_within}
use Rattle.std.specs.Prelude.{All, slice_get, slice_index, slice_index_or}
use Rattle.tdf_balance.specs.Laws.{AnswersExclude, CountsAreUnique}
use Rattle.tdf_base.specs.declared.codes.Code.{Code}
use Rattle.tdf_base.specs.declared.faults.Fault.{Fault}
use Rattle.tdf_bind_tables.specs.FlatTables.{FlatTablesOf}
use Rattle.tdf_dynamic.proofs.Rows.{not_both}
use Rattle.tdf_dynamic.specs.Change.{AreUnmarked, Asks, HasSameSteps, IsFirstChangeFault, IsFirstRow, IsMarked, IsNewPlan, OfPlan, OfRange, OfRejected, OfSteps, Rejects, TimingOf, TimingsOf, fault_of_row, step_of_module, table_after}
use Rattle.tdf_dynamic.specs.Laws.{BoundariesHaveOne, IsBoundary}
use Rattle.tdf_dynamic_plans.proofs.Api.{fault_apart, fault_once, no_counts, no_steps, plan_once, same_steps}
use Rattle.tdf_dynamic_plans.specs.Attributes.{AttrsOf, clusters_of}
use Rattle.tdf_dynamic_plans.specs.Faults.{IsNetFault, IsNetPlan, IsStepsFault, OfCounts, OfPeriod, OfPlan as NetPlanFault, OfTiming}
use Rattle.tdf_dynamic_plans.specs.Same.{AreSamePlans}
use Rattle.tdf_dynamic_plans.specs.Rates.{net_of}
use Rattle.tdf_bind.specs.declared.model.Flat.{Flat}
use Rattle.tdf_graph.specs.Clusters.{AreClusters}
use Rattle.tdf_graph.specs.Ranges.{IsEdge}
use Rattle.tdf_graph.specs.declared.actors.Port.{Port}
use Rattle.tdf_schedule.specs.Laws.{BoundsAreUnique, PlansAreUnique}
use Rattle.tdf_schedule.specs.declared.entry.Plan.{Plan}
use Rattle.tdf_streams.proofs.Api.{are_rates, is_wired, net_clusters, net_fit}
use Rattle.tdf_streams.specs.Periods.{AreAttributes}
use Rattle.tdf_timestep.specs.Period.{rate_at_port}
use Rattle.tdf_timestep.specs.declared.assign.Steps.{Steps}

pub all_get : {A : Type 0} (P : A → Type 0) (xs : List A) (j : ℕ) (x : A) → All P xs → slice_get xs j ≡ Some x → P x
all_get P xs j x all at = subst P (get_or_from_slice_get xs j x x at) (all j x (slice_get_within xs j x at))

-- the first rows for which two alike facts hold are one
first_once : (table : List AttrsOf) (P Q : AttrsOf → Type 0) → ((a : AttrsOf) → P a → Q a) → ((a : AttrsOf) → Q a → P a) → (a b : AttrsOf) → IsFirstRow table P a → IsFirstRow table Q b → a ≡ b
first_once table P Q to from a b p q = go (cases_lt p.place q.place) (cases_lt q.place p.place)
  where
    go : (p.place < q.place) ⊎ (q.place ≤ p.place) → (q.place < p.place) ⊎ (p.place ≤ q.place) → a ≡ b
    go (inl less) other = absurd (q.before p.place a less p.at (to a p.holds))
    go (inr most) (inl less) = absurd (p.before q.place b less q.at (from b q.holds))
    go (inr most) (inr least) =
        let same : p.place ≡ q.place = omega (arith, most, least) in
        same_Some a b (sym p.at ∙ ap (slice_get table) same ∙ q.at)

told_once : (tables : FlatTablesOf) (why : Code) (a b : AttrsOf) (f g : Fault) → a ≡ b → fault_of_row tables why a ≡ Some f → fault_of_row tables why b ≡ Some g → f ≡ g
told_once tables why a b f g same one other = same_Some f g (sym one ∙ ap (fault_of_row tables why) same ∙ other)

-- a marked module is none of those that are not
marked_apart : (asks : Asks) (table : List AttrsOf) (attrs : AttrsOf) → IsFirstRow table (IsMarked asks) attrs → AreUnmarked asks table → ⊥
marked_apart asks table attrs first unmarked =
    not_both (asks attrs).out_of_range (all_get (λ a. (asks a).out_of_range ≡ false) table first.place attrs unmarked first.at) first.holds

-- the steps of a module go by those of the actors alone
steps_moved : (old new : List Port) (s t one other : Steps) (attrs : AttrsOf) → s.actor_steps.items ≡ one.actor_steps.items → t.actor_steps.items ≡ other.actor_steps.items
    → HasSameSteps old new one other attrs → HasSameSteps old new s t attrs
steps_moved old new s t one other attrs first then_same is = record {
  own = first_at ∙ is.own ∙ sym then_at;
  ports = λ j d below.
      ap (λ n. n / rate_at_port old (Some (slice_index_or attrs.ports j d))) first_at ∙ is.ports j d below
      ∙ sym (ap (λ n. n / rate_at_port new (Some (slice_index_or attrs.ports j d))) then_at);
}
  where
    first_at : step_of_module s attrs.number ≡ step_of_module one attrs.number
    first_at = ap (λ l. slice_index l attrs.number) first

    then_at : step_of_module t attrs.number ≡ step_of_module other attrs.number
    then_at = ap (λ l. slice_index l attrs.number) then_same

module _ (answers : AnswersExclude) (unique : CountsAreUnique) (flat : Flat) (cluster : ℕ) (asks : Asks) (table : List AttrsOf) (b : IsBoundary flat cluster asks table) where
  abbrev new : List AttrsOf
  new = table_after asks table

  fit : (t : List AttrsOf) → AreAttributes flat cluster t → All (IsEdge (length (clusters_of flat.tables))) (net_of flat.tables t).edges
  fit t a = net_fit flat.tables t (is_wired flat b.limits) (are_rates flat b.limits t a.allowed)

  are : (t : List AttrsOf) → AreAttributes flat cluster t → AreClusters (length (clusters_of flat.tables)) (net_of flat.tables t).edges (clusters_of flat.tables)
  are t a = net_clusters flat.tables t (is_wired flat b.limits) (are_rates flat b.limits t a.allowed)

  steps_once : (t : List AttrsOf) → AreAttributes flat cluster t → (s u : TimingOf flat.tables cluster t) → s.steps.actor_steps.items ≡ u.steps.actor_steps.items
  steps_once t a s u =
      (same_steps flat.tables (net_of flat.tables t) cluster t answers unique (fit t a) (are t a) b.has s.counts u.counts s.steps u.steps s.timing u.timing).1

  -- a module rejects whichever counts and steps are named
  pub rejects_moved : (times other : TimingsOf flat.tables cluster asks table) (attrs : AttrsOf) → Rejects flat.tables cluster asks table times attrs
      → Rejects flat.tables cluster asks table other attrs
  rejects_moved times other attrs is = record {
    flag = is.flag;
    same = is.same;
    moved = λ same. is.moved (steps_moved _ _ times.before.steps times.after.steps other.before.steps other.after.steps attrs
        (steps_once table b.before times.before other.before) (steps_once new b.after times.after other.after) same);
  }

  -- counts and steps exclude their faults
  steps_apart : (f : Fault) → IsStepsFault flat.tables (net_of flat.tables new) cluster new f → TimingOf flat.tables cluster new → ⊥
  steps_apart f (OfCounts p) t = no_counts flat.tables (net_of flat.tables new) cluster new answers unique (fit new b.after) (are new b.after) b.has f t.counts p t.timing.counts_are
  steps_apart f (OfPeriod a h p) t = no_steps flat.tables (net_of flat.tables new) cluster new answers unique (fit new b.after) (are new b.after) b.has f a t.counts t.steps h p t.timing

  net_once : (f g : Fault) → IsNetFault flat.tables (net_of flat.tables new) cluster new f → IsNetFault flat.tables (net_of flat.tables new) cluster new g → f ≡ g
  net_once f g p q = fault_once flat.tables (net_of flat.tables new) cluster new answers unique (fit new b.after) (are new b.after) b.has f g p q

  first_apart : (times other : TimingsOf flat.tables cluster asks table) (attrs : AttrsOf) → IsFirstRow table (Rejects flat.tables cluster asks table times) attrs
      → All (λ a. Rejects flat.tables cluster asks table other a → ⊥) table → ⊥
  first_apart times other attrs first none =
      all_get (λ a. Rejects flat.tables cluster asks table other a → ⊥) table first.place attrs none first.at (rejects_moved times other attrs first.holds)

  pub one_fault : (f g : Fault) → IsFirstChangeFault flat.tables cluster asks table f → IsFirstChangeFault flat.tables cluster asks table g → f ≡ g
  one_fault f g (OfRange a p told) (OfRange c q other) = told_once flat.tables _ a c f g (first_once table (IsMarked asks) (IsMarked asks) (λ x h. h) (λ x h. h) a c p q) told other
  one_fault f g (OfRange a p told) (OfSteps u q) = absurd (marked_apart asks table a p u)
  one_fault f g (OfRange a p told) (OfRejected u t c q other) = absurd (marked_apart asks table a p u)
  one_fault f g (OfRange a p told) (OfPlan u t n q) = absurd (marked_apart asks table a p u)
  one_fault f g (OfSteps u p) (OfRange c q other) = absurd (marked_apart asks table c q u)
  one_fault f g (OfSteps u p) (OfSteps v q) = net_once f g (OfTiming p) (OfTiming q)
  one_fault f g (OfSteps u p) (OfRejected v t c q other) = absurd (steps_apart f p t.after)
  one_fault f g (OfSteps u p) (OfPlan v t n q) = absurd (steps_apart f p t.after)
  one_fault f g (OfRejected u s a p told) (OfRange c q other) = absurd (marked_apart asks table c q u)
  one_fault f g (OfRejected u s a p told) (OfSteps v q) = absurd (steps_apart g q s.after)
  one_fault f g (OfRejected u s a p told) (OfRejected v t c q other) = told_once flat.tables _ a c f g
      (first_once table (Rejects flat.tables cluster asks table s) (Rejects flat.tables cluster asks table t) (rejects_moved s t) (rejects_moved t s) a c p q) told other
  one_fault f g (OfRejected u s a p told) (OfPlan v t n q) = absurd (first_apart s t a p n)
  one_fault f g (OfPlan u s n p) (OfRange c q other) = absurd (marked_apart asks table c q u)
  one_fault f g (OfPlan u s n p) (OfSteps v q) = absurd (steps_apart g q s.after)
  one_fault f g (OfPlan u s n p) (OfRejected v t c q other) = absurd (first_apart t s c q n)
  one_fault f g (OfPlan u s n p) (OfPlan v t m q) = net_once f g (NetPlanFault s.after.counts s.after.steps s.after.timing p) (NetPlanFault t.after.counts t.after.steps t.after.timing q)

  net_plan : (plan : Plan) → IsNewPlan flat.tables cluster asks table plan → IsNetPlan flat.tables (net_of flat.tables new) cluster new plan
  net_plan plan is = record { counts = is.times.after.counts; steps = is.times.after.steps; timing = is.times.after.timing; plan_is = is.plan_is }

  net_apart : (f : Fault) (plan : Plan) → IsNetFault flat.tables (net_of flat.tables new) cluster new f → IsNewPlan flat.tables cluster asks table plan → ⊥
  net_apart f plan p is = fault_apart flat.tables (net_of flat.tables new) cluster new answers unique (fit new b.after) (are new b.after) b.has f plan p (net_plan plan is)

  pub fault_or_plan : (f : Fault) (plan : Plan) → IsFirstChangeFault flat.tables cluster asks table f → IsNewPlan flat.tables cluster asks table plan → ⊥
  fault_or_plan f plan (OfRange a p told) is = marked_apart asks table a p is.unmarked
  fault_or_plan f plan (OfSteps u p) is = net_apart f plan (OfTiming p) is
  fault_or_plan f plan (OfRejected u s a p told) is = first_apart s is.times a p is.accepted
  fault_or_plan f plan (OfPlan u s n p) is = net_apart f plan (NetPlanFault s.after.counts s.after.steps s.after.timing p) is

  module _ (plans : PlansAreUnique) (bounds : BoundsAreUnique) where
    pub one_plan : (one other : Plan) → IsNewPlan flat.tables cluster asks table one → IsNewPlan flat.tables cluster asks table other → AreSamePlans one other
    one_plan one other p q = plan_once flat.tables (net_of flat.tables new) cluster new answers unique (fit new b.after) (are new b.after) b.has plans bounds one other (net_plan one p) (net_plan other q)

pub boundaries_have_one : AnswersExclude → CountsAreUnique → PlansAreUnique → BoundsAreUnique → BoundariesHaveOne
boundaries_have_one answers unique plans bounds = record {
  same_or_fault = λ flat cluster asks table fault same is. is.differs same;
  same_or_plan = λ flat cluster asks table plan same is. is.differs same;
  one_fault = λ flat cluster asks table one other b p q. one_fault answers unique flat cluster asks table b one other p.first q.first;
  fault_or_plan = λ flat cluster asks table fault plan b p q. fault_or_plan answers unique flat cluster asks table b fault plan p.first q;
  one_plan = λ flat cluster asks table one other b p q. one_plan answers unique flat cluster asks table b plans bounds one other p q;
}
