-- The clusters of a snapshot tell the positions of the traced signals, and stand where the snapshot says.
use Rattle.std.proofs.Common.{◌≡◌, ℕ, List, [], map, sym, subst}
use Rattle.tdf_bind.specs.declared.model.Flat.{Flat}
use Rattle.tdf_dynamic_first.specs.declared.first.First.{First}
use Rattle.tdf_sim_instants.specs.Below.{AreAt, ClusterOf}
use Rattle.tdf_lang_tree.specs.Pure.{PureTree}
use Rattle.tdf_saved.specs.State.{ClusterStateOf, SnapshotOf}
use Rattle.tdf_sim_instants.specs.InstantLaws.{IsModelOf}
use Rattle.tdf_sim_runs.proofs.Clock.{can_tell}
use Rattle.tdf_sim_runs.specs.Reopened.{CanReopen}
use Rattle.tdf_sim_runs.specs.machine.Standing.{clock_in}
use Rattle.tdf_sim_shown.specs.Below.{AllGoOnFromStates, ArePlansOf, AreUnderPlans, CanBeShown, ClustersStandThere, HasMembersOf, HasTimesOf, HavePlansFor, PlansAreTheirs, PlansAreThere, SoundCanBeShown, resumed_clusters}
use Rattle.tdf_sim_shown.specs.Columns.{CanTellColumns}

module _ (flat : Flat) (s : SnapshotOf) (since : List ℕ) (cs : List ClusterOf) (can : CanReopen flat) (times : HasTimesOf s) (members : HasMembersOf flat s)
    (since_are : since ≡ map (λ (c : ClusterStateOf). c.start) s.clusters) (go : AllGoOnFromStates flat s.clusters s.time cs) (law_clusters : ClustersStandThere) where
  stand_under : (model : PureTree) (firsts : List First) → IsModelOf model flat → AreUnderPlans firsts cs → AreAt model flat since (resumed_clusters model flat firsts s []) cs
  stand_under model firsts of under = subst (λ l. AreAt model flat l (resumed_clusters model flat firsts s []) cs) (sym since_are) (law_clusters model flat firsts s cs of.checked go under)

  pub stand_by : PlansAreTheirs → (model : PureTree) (firsts : List First) → IsModelOf model flat → ArePlansOf flat s firsts → AreAt model flat since (resumed_clusters model flat firsts s []) cs
  stand_by law_theirs model firsts of are = stand_under model firsts of (law_theirs flat firsts s cs can.of.limits members are go)

  pub tells : PlansAreThere → SoundCanBeShown → CanTellColumns flat (clock_in s since cs)
  tells law_plans law_shown = can_tell flat s since cs can.of.limits times members since_are go can.model (resumed_clusters can.model flat plans.firsts s []) (stand_under can.model plans.firsts can.of plans.under) shown
    where
      plans : HavePlansFor flat s cs
      plans = law_plans flat s cs go

      shown : CanBeShown flat.tables
      shown = law_shown can.model flat can.of.sound can.of.is can.of.limits can.runnable
