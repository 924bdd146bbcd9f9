-- What stands by a snapshot: its clusters, and the time from which rows are still to be written.
-- Source: own.
use Rattle.std.specs.Prelude.{◌≡◌, ℕ, List, map}
use Rattle.tdf_bind.specs.declared.model.Flat.{Flat}
use Rattle.tdf_sim_instants.specs.Below.{ClusterOf}
use Rattle.tdf_saved.specs.State.{ClusterStateOf, SnapshotOf}
use Rattle.tdf_sim_runs.specs.declared.ready.Standing.{Standing}
use Rattle.tdf_sim_shown.specs.Below.{AllGoOnFromStates, ClockAt, clock_at}
use Rattle.tdf_sim_shown.specs.Columns.{AreGoodColumns, WhereTheyStand, rows_among}

abbrev pub clock_in : SnapshotOf → (since : List ℕ) → List ClusterOf → ClockAt
clock_in s since clusters = clock_at s.time since clusters

pub record IsStanding (flat : Flat) (s : SnapshotOf) (x : Standing) : Type 0 where
  pub since : x.since.items ≡ map (λ (c : ClusterStateOf). c.start) s.clusters
  pub clusters : AllGoOnFromStates flat s.clusters s.time x.clusters.items
  pub rows : WhereTheyStand flat (clock_in s x.since.items x.clusters.items)
      (λ hs. x.rows ≡ rows_among flat hs s.time)
  pub good : WhereTheyStand flat (clock_in s x.since.items x.clusters.items)
      (λ hs. AreGoodColumns flat hs s)
