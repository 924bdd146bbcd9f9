-- Clusters that go on from the states of a snapshot.
-- Source: own.
use Rattle.std.specs.Prelude.{◌≡◌, ◌+◌, ℕ, List, Some, length, slice_get}
use Rattle.tdf_bind.specs.declared.model.Flat.{Flat}
use Rattle.tdf_dynamic_first.specs.declared.first.First.{First}
use Rattle.tdf_sim_refinement.specs.Below.{ClusterOf, IsAtState, IsClusterOf, IsStateAt, StandsAtState}
use Rattle.tdf_saved.specs.State.{ClusterStateOf}

-- each cluster can go on from its state at a time; that of place n has the number n + 1
abbrev pub AreStatesAt : Flat → List ClusterStateOf → (time : ℕ) → Type 0
AreStatesAt flat states time = (n : ℕ) (s : ClusterStateOf) → slice_get states n ≡ Some s
    → IsStateAt flat (n + 1) s time

-- the cluster of this number goes on from a state at a time: it is where the state says, and stands
-- for the streams from each start that the state says
pub record GoesOnFromState (flat : Flat) (number : ℕ) (s : ClusterStateOf) (time : ℕ)
    (c : ClusterOf) : Type 0 where
  pub of : IsClusterOf flat c
  pub at : IsAtState flat number s time c
  pub stands : StandsAtState flat s c

-- a cluster goes on from each state, in order
pub record AllGoOnFromStates (flat : Flat) (states : List ClusterStateOf) (time : ℕ)
    (cs : List ClusterOf) : Type 0 where
  pub same : length cs ≡ length states
  pub each : (n : ℕ) (s : ClusterStateOf) (c : ClusterOf) → slice_get states n ≡ Some s
      → slice_get cs n ≡ Some c → GoesOnFromState flat (n + 1) s time c

-- the attributes of a cluster in progress, and its plan, are these
pub record IsUnderPlan (first : First) (c : ClusterOf) : Type 0 where
  pub table_is : c.table ≡ first.attrs.rows
  pub entries_are : c.entries ≡ first.plan.entries.items
  pub bounds_are : c.bounds ≡ first.plan.bounds.items
  pub period_is : c.period ≡ first.plan.period

-- so it is with each cluster, in order
pub record AreUnderPlans (firsts : List First) (cs : List ClusterOf) : Type 0 where
  pub same : length firsts ≡ length cs
  pub each : (n : ℕ) (first : First) (c : ClusterOf) → slice_get firsts n ≡ Some first
      → slice_get cs n ≡ Some c → IsUnderPlan first c
