-- The plans under the tables that a snapshot says are one, so it says one world.
use Rattle.std.proofs.Common.{◌≡◌, ℕ, suc, ◌+◌, false, List, [], ◌∷◌, Some, length, map, replicate, refl, subst, arith}
use Rattle.std.proofs.lemmas.Option.{slice_get_within}
use Rattle.std.specs.List.{enumerate_from, zip}
use Rattle.std.specs.Prelude.{Contains, slice_get, slice_index_or}
use Rattle.tdf_balance.specs.Laws.{AnswersExclude, CountsAreUnique}
use Rattle.tdf_bind.specs.declared.model.Flat.{Flat}
use Rattle.tdf_bind_invariants.specs.Limits.{AreWithinLimits}
use Rattle.tdf_dynamic_first.proofs.Api.{net_clusters, net_fit}
use Rattle.tdf_dynamic_first.specs.Laws.{ClustersAreWhole}
use Rattle.tdf_dynamic_first.specs.declared.first.First.{First}
use Rattle.tdf_dynamic_plans.proofs.Api.{plan_once}
use Rattle.tdf_dynamic_plans.specs.Attributes.{AttrsOf, clusters_of}
use Rattle.tdf_dynamic_plans.specs.Faults.{IsTablePlan}
use Rattle.tdf_dynamic_plans.specs.Rates.{net_of}
use Rattle.tdf_dynamic_plans.specs.Same.{AreSamePlans}
use Rattle.tdf_dynamic_values.specs.Laws.{ValuesAreOfOne}
use Rattle.tdf_dynamic_values.specs.States.{state_flags, state_rates, state_steps}
use Rattle.tdf_exec_parts.specs.States.{IsStateUnder, due_before}
use Rattle.tdf_lang_tree.specs.Pure.{PureTree}
use Rattle.tdf_saved.specs.State.{ClusterStateOf}
use Rattle.tdf_schedule.specs.Laws.{BoundsAreUnique, PlansAreUnique}
use Rattle.tdf_schedule.specs.Plan.{done}
use Rattle.tdf_schedule.specs.declared.entry.Entry.{Entry}
use Rattle.tdf_sim_history.specs.Start.{counts_in}
use Rattle.tdf_sim_history.specs.World.{Change, ClusterAt}
use Rattle.tdf_sim_resumed.specs.Restored.{state_start}
use Rattle.tdf_sim_resumed.specs.Resuming.{resumed_cluster, resumed_clusters, rest_of}
use Rattle.tdf_sim_resumed.specs.Starting.{column_start_of, first_unknown, least_within, resumed_world, tracked_of}
use Rattle.tdf_sim_unique.specs.PartLaws.{PlansSayOneWorld}
use Rattle.tdf_streams.proofs.Api.{are_rates, is_wired}
use Rattle.tdf_streams.specs.Periods.{period_record}

-- two first plans of a cluster say the same
record SayOne (one other : First) : Type 0 where
  attrs : one.attrs.rows ≡ other.attrs.rows
  plans : AreSamePlans one.plan other.plan

module _ (answers : AnswersExclude) (unique : CountsAreUnique) (plans : PlansAreUnique) (bounds : BoundsAreUnique) (law : ValuesAreOfOne) (flat : Flat) (cluster : ℕ) (limits : AreWithinLimits flat)
    (has : Contains (clusters_of flat.tables) cluster) where
  say_one : (one other : First) (s : ClusterStateOf) (time : ℕ) → IsStateUnder flat cluster s time one.attrs.rows one.plan → IsStateUnder flat cluster s time other.attrs.rows other.plan → SayOne one other
  say_one one other s time x z = record {
    attrs = same;
    plans =
        let wired = is_wired flat limits in
        let rates = are_rates flat limits other.attrs.rows z.table_is.attributes.allowed in
        plan_once flat.tables (net_of flat.tables other.attrs.rows) cluster other.attrs.rows answers unique (net_fit flat.tables other.attrs.rows wired rates)
        (net_clusters flat.tables other.attrs.rows wired rates) has plans bounds one.plan other.plan
        (subst (λ (t : List AttrsOf). IsTablePlan flat.tables cluster t one.plan) same x.planned) z.planned;
  }
    where
      same : one.attrs.rows ≡ other.attrs.rows
      same = law flat cluster (state_flags s.modules) (state_rates s.modules) (state_steps s.modules) one.attrs.rows other.attrs.rows
          x.table_is.attributes x.table_is.holds z.table_is.attributes z.table_is.holds

module _ (model : PureTree) (flat : Flat) (time : ℕ) (ahead : List (List Change)) where
  -- a cluster that goes on, by what its plan says
  abbrev cluster_by : (cluster : ℕ) → List AttrsOf → List Entry → (bounds : List ℕ) → (period : ℕ) → ClusterStateOf → List Change → ClusterAt
  cluster_by cluster rows entries bounds period s told = record {
    begun = state_start model flat cluster rows s;
    entries = entries;
    bounds = bounds;
    origin = s.start;
    since = s.start;
    from = due_before s.start time entries;
    place = due_before s.start time entries;
    old = [];
    now = rest_of (period_record flat.tables rows (counts_in flat.tables entries) period false) (done entries (due_before s.start time entries));
    reads = replicate (length flat.tables.actors) [];
    ahead = told;
  }

  abbrev clusters_from : ℕ → List First → List ClusterStateOf → List ClusterAt
  clusters_from k firsts states = map (λ (c : ℕ × (First × ClusterStateOf)). resumed_cluster model flat (c.0 + 1) time c.1.0 c.1.1 (slice_index_or ahead c.0 [])) (enumerate_from k (zip firsts states))

  clusters_one : (k : ℕ) (firsts others : List First) (states : List ClusterStateOf) → length firsts ≡ length states → length others ≡ length states
      → ((n : ℕ) (f g : First) (s : ClusterStateOf) → slice_get firsts n ≡ Some f → slice_get others n ≡ Some g → slice_get states n ≡ Some s → SayOne f g)
      → clusters_from k firsts states ≡ clusters_from k others states
  clusters_one k [] [] states long size each = refl
  clusters_one k [] (g ∷ others) states long size each = absurd (omega (arith, long, size))
  clusters_one k (f ∷ firsts) [] states long size each = absurd (omega (arith, long, size))
  clusters_one k (f ∷ firsts) (g ∷ others) [] long size each = absurd (omega (arith, long))
  clusters_one k (f ∷ firsts) (g ∷ others) (s ∷ states) long size each =
      let one = each 0 f g s refl refl refl in
      λ i. cluster_by (k + 1) (one.attrs i) (one.plans.entries i) (one.plans.bounds i) (one.plans.period i) s (slice_index_or ahead k [])
      ∷ clusters_one (k + 1) firsts others states (omega (arith, long)) (omega (arith, size)) (λ n x z t at there on. each (suc n) x z t at there on) i

pub plans_say_one_world : AnswersExclude → CountsAreUnique → PlansAreUnique → BoundsAreUnique → ValuesAreOfOne → ClustersAreWhole → PlansSayOneWorld
plans_say_one_world answers unique plans bounds law numbers model flat firsts others s ahead limits members one other = λ i. record (resumed_world model flat firsts s ahead) {
  clusters = clusters ahead i;
  shown = map (λ c. column_start_of flat.tables (least_within s.time (map (λ row. first_unknown s.time (tracked_of flat.tables (clusters [] i) row)) flat.tables.traces)) c.0 c.1
      (tracked_of flat.tables (clusters [] i) c.0)) (zip flat.tables.traces s.columns);
}
  where
    clusters : (told : List (List Change)) → resumed_clusters model flat firsts s told ≡ resumed_clusters model flat others s told
    clusters told = clusters_one model flat s.time told 0 firsts others s.clusters one.all other.all (λ n f g x at there on. (
        let i = slice_get_within firsts n f at in let l = one.all in let m = members.clusters in
        let has = numbers flat.tables (n + 1) (is_wired flat limits) (omega arith) (omega (arith, i, l, m)) in
        say_one answers unique plans bounds law flat (n + 1) limits has f g x s.time (one.each n f x at on) (other.each n g x there on)))
