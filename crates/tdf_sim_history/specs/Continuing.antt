-- What later instants make of clusters: periods and values of samplers are added, and samples.
-- Source: own.
use Rattle.std.specs.Prelude.{◌≡◌, ◌+◌, ◌≤◌, ℕ, List, All, Some, length, slice_get, slice_index}
use Rattle.tdf_dynamic.specs.Below.{Longer}
use Rattle.tdf_sim_history.specs.Cells.{outputs_done}
use Rattle.tdf_sim_history.specs.Instant.{run_in}
use Rattle.tdf_sim_history.specs.World.{Change, ClusterAt, New, Refused, Same, World}
use Rattle.tdf_schedule.specs.Plan.{done}
use Rattle.tdf_schedule.specs.declared.entry.Entry.{Entry}
use Rattle.tdf_bind_connections.specs.declared.modules.PortRow.{PortRow}

-- the streams of a cluster go on from one state of it to another: their start stays, periods and
-- values of samplers are added, and no fewer outputs of a port are there
pub record Continues (c d : ClusterAt) : Type 0 where
  pub begun : d.begun ≡ c.begun
  pub origin : d.origin ≡ c.origin
  pub longer : Longer (run_in c) (run_in d)
  pub outputs : (port : PortRow) → outputs_done port c ≤ outputs_done port d

-- a plan has so many firings of each actor
abbrev pub EntriesHaveCounts : List Entry → List ℕ → Type 0
EntriesHaveCounts entries counts = (m : ℕ) → slice_index counts m ≡ done entries (length entries) m

-- and so has a new one that is told
abbrev pub HasToldCounts : Change → Type 0
HasToldCounts (Same table) = Unit {0}
HasToldCounts (New table counts period entries bounds) = EntriesHaveCounts entries counts
HasToldCounts (Refused fault) = Unit {0}

-- the plan in force has the firings of the period, and what is done in it is those from a place on;
-- those ahead have theirs
pub record HasWholePlan (c : ClusterAt) : Type 0 where
  pub counts : (m : ℕ) → slice_index c.now.counts m + done c.entries c.from m
      ≡ done c.entries (length c.entries) m
  pub whole : EntriesHaveCounts c.entries c.now.info.counts
  pub ahead : All HasToldCounts c.ahead

-- where a cluster has a whole plan, it goes on, and has one still
pub record ClusterGoesOn (c d : ClusterAt) : Type 0 where
  pub continues : HasWholePlan c → Continues c d
  pub planned : HasWholePlan c → HasWholePlan d

-- so do all clusters of a world
pub record AllGoOn {K : Type 0} (w v : World K) : Type 0 where
  pub same : length v.clusters ≡ length w.clusters
  pub each : (n : ℕ) (c d : ClusterAt) → slice_get w.clusters n ≡ Some c
      → slice_get v.clusters n ≡ Some d → ClusterGoesOn c d
