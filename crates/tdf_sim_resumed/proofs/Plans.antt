-- The plans of clusters that go on from the states of a snapshot are those that the snapshot says.
use Rattle.std.proofs.Common.{◌≡◌, ◌∙◌, ℕ, zero, suc, ◌+◌, List, [], ◌∷◌, Some, length, refl, sym, subst, arith}
use Rattle.std.proofs.lemmas.Option.{slice_get_within}
use Rattle.std.specs.Prelude.{Contains, slice_get}
use Rattle.tdf_balance.specs.Laws.{AnswersExclude, CountsAreUnique}
use Rattle.tdf_bind.specs.declared.model.Flat.{Flat}
use Rattle.tdf_bind_invariants.specs.Limits.{AreWithinLimits}
use Rattle.tdf_dynamic_first.proofs.Api.{net_clusters, net_fit}
use Rattle.tdf_dynamic_first.specs.Laws.{ClustersAreWhole}
use Rattle.tdf_dynamic_first.specs.declared.first.First.{First}
use Rattle.tdf_dynamic_plans.proofs.Api.{plan_once}
use Rattle.tdf_dynamic_plans.specs.Attributes.{AttrsOf, clusters_of}
use Rattle.tdf_dynamic_plans.specs.Faults.{IsTablePlan}
use Rattle.tdf_dynamic_plans.specs.Rates.{net_of}
use Rattle.tdf_dynamic_plans.specs.Same.{AreSamePlans}
use Rattle.tdf_dynamic_values.specs.Laws.{ValuesAreOfOne}
use Rattle.tdf_dynamic_values.specs.States.{state_flags, state_rates, state_steps}
use Rattle.tdf_sim_refinement.specs.Below.{ClusterOf, IsStateUnder}
use Rattle.tdf_saved.specs.State.{ClusterStateOf, SnapshotOf}
use Rattle.tdf_schedule.specs.Laws.{BoundsAreUnique, PlansAreUnique}
use Rattle.tdf_sim_resumed.proofs.Standing.{state_under}
use Rattle.tdf_sim_resumed.specs.MadeLaws.{PlansAreThere, PlansAreTheirs}
use Rattle.tdf_sim_resumed.specs.Made.{AllGoOnFromStates, AreUnderPlans, GoesOnFromState, IsUnderPlan}
use Rattle.tdf_sim_resumed.specs.Valid.{ArePlansOf}
use Rattle.tdf_streams.proofs.Api.{are_rates, get_inside, is_wired, none_some, some_same}

-- ---- there are plans

-- the attributes and the plan of a cluster that goes on
abbrev first_of : (flat : Flat) (number : ℕ) (s : ClusterStateOf) (time : ℕ) (c : ClusterOf) → GoesOnFromState flat number s time c → First
first_of flat number s time c goes = record { attrs = record { rows = c.table; known = c.known }; plan = goes.at.plan }

is_under : (flat : Flat) (number : ℕ) (s : ClusterStateOf) (time : ℕ) (c : ClusterOf) (goes : GoesOnFromState flat number s time c) → IsUnderPlan (first_of flat number s time c goes) c
is_under flat number s time c goes = record { table_is = refl; entries_are = goes.at.entries_are; bounds_are = goes.at.bounds_are; period_is = goes.at.period_is }

all_under : (flat : Flat) (time k : ℕ) (states : List ClusterStateOf) (cs : List ClusterOf) → length cs ≡ length states
    → ((n : ℕ) (s : ClusterStateOf) (c : ClusterOf) → slice_get states n ≡ Some s → slice_get cs n ≡ Some c → GoesOnFromState flat (k + n + 1) s time c)
    → (firsts : List First) × AreUnderPlans firsts cs
all_under flat time k states [] long each = ([], record { same = refl; each = λ n first c at there. none_some c there })
all_under flat time k [] (c ∷ cs) long each = absurd (omega (arith, long))
all_under flat time k (s ∷ states) (c ∷ cs) long each =
    let rest = all_under flat time (k + 1) states cs (omega (arith, long)) (λ n x d at there. (
    let z : k + suc n + 1 ≡ k + 1 + n + 1 = omega arith in
    subst (λ j. GoesOnFromState flat j x time d) z (each (suc n) x d at there))) in
    let goes = each 0 s c refl refl in (
      first_of flat (k + 0 + 1) s time c goes ∷ rest.0,
      record {
        same = let l = rest.1.same in omega (arith, l);
        each = λ n first d at there. at_place n first d (first_of flat (k + 0 + 1) s time c goes) rest.0 at there (is_under flat (k + 0 + 1) s time c goes) rest.1;
      },
    )
  where
    at_place : (n : ℕ) (first : First) (d : ClusterOf) → (x : First) (xs : List First) → slice_get (x ∷ xs) n ≡ Some first → slice_get (c ∷ cs) n ≡ Some d → IsUnderPlan x c → AreUnderPlans xs cs → IsUnderPlan first d
    at_place zero first d x xs at there one rest = subst (λ (f : First). IsUnderPlan f d) (some_same x first at) (subst (IsUnderPlan x) (some_same c d there) one)
    at_place (suc n) first d x xs at there one rest = rest.each n first d at there

-- those of the clusters are plans of the snapshot
pub plans_are : (flat : Flat) (s : SnapshotOf) (firsts : List First) (cs : List ClusterOf) → AllGoOnFromStates flat s.clusters s.time cs → AreUnderPlans firsts cs → ArePlansOf flat s firsts
plans_are flat s firsts cs go under = record {
  all = under.same ∙ go.same;
  each = λ n first x at there. (
      let i = slice_get_within firsts n first at in let l = under.same in
      let c = get_inside cs n (omega (arith, i, l)) in
      state_under flat (n + 1) first x s.time c.0 (go.each n x c.0 there c.1) (under.each n first c.0 at c.1));
}

pub plans_there : PlansAreThere
plans_there flat s cs go =
    let a = all_under flat s.time 0 s.clusters cs go.same (λ n x c at there. (
    let z : n + 1 ≡ 0 + n + 1 = omega arith in subst (λ j. GoesOnFromState flat j x s.time c) z (go.each n x c at there))) in
    record { firsts = a.0; under = a.1; are = plans_are flat s a.0 cs go a.1 }

-- ---- and no others

module _ (answers : AnswersExclude) (unique : CountsAreUnique) (plans : PlansAreUnique) (bounds : BoundsAreUnique) (law : ValuesAreOfOne) (flat : Flat) (cluster : ℕ) (limits : AreWithinLimits flat)
    (has : Contains (clusters_of flat.tables) cluster) where
  one_under : (first : First) (s : ClusterStateOf) (time : ℕ) (c : ClusterOf) → IsStateUnder flat cluster s time first.attrs.rows first.plan → GoesOnFromState flat cluster s time c → IsUnderPlan first c
  one_under first s time c state goes = record {
    table_is = same;
    entries_are = goes.at.entries_are ∙ one.entries;
    bounds_are = goes.at.bounds_are ∙ one.bounds;
    period_is = goes.at.period_is ∙ one.period;
  }
    where
      same : c.table ≡ first.attrs.rows
      same = law flat cluster (state_flags s.modules) (state_rates s.modules) (state_steps s.modules) c.table first.attrs.rows
          goes.at.is.table_is.attributes goes.at.is.table_is.holds state.table_is.attributes state.table_is.holds

      one : AreSamePlans goes.at.plan first.plan
      one =
          let wired = is_wired flat limits in
          let rates = are_rates flat limits first.attrs.rows state.table_is.attributes.allowed in
          plan_once flat.tables (net_of flat.tables first.attrs.rows) cluster first.attrs.rows answers unique (net_fit flat.tables first.attrs.rows wired rates)
          (net_clusters flat.tables first.attrs.rows wired rates) has plans bounds goes.at.plan first.plan
          (subst (λ (t : List AttrsOf). IsTablePlan flat.tables cluster t goes.at.plan) same goes.at.is.planned) state.planned

pub plans_theirs : AnswersExclude → CountsAreUnique → PlansAreUnique → BoundsAreUnique → ValuesAreOfOne → ClustersAreWhole → PlansAreTheirs
plans_theirs answers unique plans bounds law numbers flat firsts s cs limits members are go = record {
  same = are.all ∙ sym go.same;
  each = λ n first c at there. (
      let i = slice_get_within firsts n first at in let l = are.all in let g = members.clusters in
      let x = get_inside s.clusters n (omega (arith, i, l)) in
      let has = numbers flat.tables (n + 1) (is_wired flat limits) (omega arith) (omega (arith, i, l, g)) in
      one_under answers unique plans bounds law flat (n + 1) limits has first x.0 s.time c (are.each n first x.0 at x.1) (go.each n x.0 c x.1 there));
}
