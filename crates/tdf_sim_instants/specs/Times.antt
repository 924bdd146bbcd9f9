-- The times at which something is next due.
-- Source: own.
use Rattle.std.specs.Prelude.{◌≡◌, ◌⊎◌, ◌<◌, ◌≤◌, ◌+◌, ℕ, true, List, Option, Some, None, slice_get}
use Rattle.tdf_sim_instants.specs.Settling.{IsBefore}
use Rattle.tdf_events.specs.Side.{SideOf}
use Rattle.tdf_sim_refinement.specs.Below.{ClusterOf, next_offset}
use Rattle.tdf_sim_history.specs.Rules.{is_side_due}

-- the offset of the next entry, or of the end of the period
abbrev pub due_offset : ClusterOf → Option ℕ → ℕ
due_offset c None = c.period
due_offset c (Some offset) = offset

-- the time at which something is next due in a cluster whose period began at a time
abbrev pub due_time : (since : ℕ) → ClusterOf → ℕ
due_time since c = since + due_offset c (next_offset c)

-- a cluster and the start of its period
pub record IsClusterRunning (clusters : List ClusterOf) (since : List ℕ) (n s : ℕ) (c : ClusterOf)
    : Type 0 where
  pub cluster : slice_get clusters n ≡ Some c
  pub begun : slice_get since n ≡ Some s

-- it is the time at which something is next due in one of the clusters
pub record IsDueTime (clusters : List ClusterOf) (since : List ℕ) (time : ℕ) : Type 0 where
  pub number : ℕ
  pub start : ℕ
  pub cluster : ClusterOf
  pub running : IsClusterRunning clusters since number start cluster
  pub due : due_time start cluster ≡ time

-- the least of these times, or the limit
pub record IsLeastDue (clusters : List ClusterOf) (since : List ℕ) (n limit time : ℕ)
    : Type 0 where
  pub within : time ≤ limit
  pub least : (m s : ℕ) (c : ClusterOf) → m < n → IsClusterRunning clusters since m s c
      → time ≤ due_time s c
  pub due : time < limit → IsDueTime clusters since time

-- the least time at which something is due, in a cluster or on the event side, or the stop
pub record IsNextDue (clusters : List ClusterOf) (since : List ℕ) (side : SideOf)
    (stop time : ℕ) : Type 0 where
  pub within : time ≤ stop
  pub each : (m s : ℕ) (c : ClusterOf) → IsClusterRunning clusters since m s c → time ≤ due_time s c
  pub before : IsBefore time side
  pub due : time < stop → IsDueTime clusters since time ⊎ (is_side_due side time ≡ true)
