-- Clusters that go on from the states of a snapshot are those of the world that it says.
-- Source: own.
use Rattle.std.specs.Prelude.{ℕ, List, [], map}
use Rattle.tdf_bind.specs.declared.model.Flat.{Flat}
use Rattle.tdf_bind_invariants.specs.Limits.{AreWithinLimits}
use Rattle.tdf_dynamic_first.specs.declared.first.First.{First}
use Rattle.tdf_sim_refinement.specs.Below.{ClusterOf, IsStateStart}
use Rattle.tdf_expr.specs.Checked.{IsCheckedOf}
use Rattle.tdf_lang_tree.specs.Pure.{PureTree}
use Rattle.tdf_saved.specs.State.{ClusterStateOf, SnapshotOf}
use Rattle.tdf_sim_refinement.specs.At.{IsAt}
use Rattle.tdf_sim_refinement.specs.Pass.{AreAt}
use Rattle.tdf_sim_resumed.specs.Made.{AllGoOnFromStates, AreUnderPlans, GoesOnFromState, IsUnderPlan}
use Rattle.tdf_sim_resumed.specs.Restored.{state_start}
use Rattle.tdf_sim_resumed.specs.Resuming.{resumed_cluster, resumed_clusters}
use Rattle.tdf_sim_resumed.specs.Valid.{ArePlansOf, HasMembersOf}

-- the start of streams in the world that a snapshot says is one that the cluster's state says
abbrev pub StateSaysStart : Type 0
StateSaysStart = (model : PureTree) (flat : Flat) (number : ℕ) (s : ClusterStateOf) (time : ℕ)
    → (c : ClusterOf) → GoesOnFromState flat number s time c
    → IsStateStart flat number c.table s (state_start model flat number c.table s)

-- a cluster that goes on from a state, under these attributes and this plan, is the one of a world
-- that goes on
abbrev pub StandsWhereSaid : Type 0
StandsWhereSaid = (model : PureTree) (flat : Flat) (number : ℕ) (first : First)
    → (s : ClusterStateOf) (time : ℕ) (c : ClusterOf) → IsCheckedOf model flat.checked
    → GoesOnFromState flat number s time c → IsUnderPlan first c
    → IsAt model flat number (resumed_cluster model flat number time first s []) c

-- so are all clusters that go on from the states of a snapshot; their periods began when it says
abbrev pub ClustersStandThere : Type 0
ClustersStandThere = (model : PureTree) (flat : Flat) (firsts : List First) (s : SnapshotOf)
    → (cs : List ClusterOf) → IsCheckedOf model flat.checked
    → AllGoOnFromStates flat s.clusters s.time cs → AreUnderPlans firsts cs
    → AreAt model flat (map (λ (c : ClusterStateOf). c.start) s.clusters)
    (resumed_clusters model flat firsts s []) cs

-- attributes and plans under which clusters go on from the states of a snapshot
pub record HavePlansFor (flat : Flat) (s : SnapshotOf) (cs : List ClusterOf) : Type 0 where
  pub firsts : List First
  pub under : AreUnderPlans firsts cs
  pub are : ArePlansOf flat s firsts

-- there are such for all clusters that go on
abbrev pub PlansAreThere : Type 0
PlansAreThere = (flat : Flat) (s : SnapshotOf) (cs : List ClusterOf)
    → AllGoOnFromStates flat s.clusters s.time cs → HavePlansFor flat s cs

-- the plans that the states of a snapshot say are those of the clusters that go on from them
abbrev pub PlansAreTheirs : Type 0
PlansAreTheirs = (flat : Flat) (firsts : List First) (s : SnapshotOf) (cs : List ClusterOf)
    → AreWithinLimits flat → HasMembersOf flat s → ArePlansOf flat s firsts
    → AllGoOnFromStates flat s.clusters s.time cs → AreUnderPlans firsts cs
