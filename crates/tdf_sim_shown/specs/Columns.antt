-- What is asked of the columns of a snapshot, by the clusters that it says.
-- Source: own.
use Rattle.std.specs.Prelude.{◌≡◌, ◌<◌, ℕ, List, Some, map, slice_get}
use Rattle.tdf_base.specs.Limits.{time_end}
use Rattle.tdf_bind.specs.declared.model.Flat.{Flat}
use Rattle.tdf_bind_connections.specs.declared.traces.TraceRow.{TraceRow}
use Rattle.tdf_lang_tree.specs.Pure.{PureTree}
use Rattle.tdf_saved.specs.State.{ColumnStateOf, SnapshotOf}
use Rattle.tdf_sim_history.specs.World.{ClusterAt}
use Rattle.tdf_sim_resumed.specs.Below.{AreAt, ClusterOf, due_before}
use Rattle.tdf_sim_resumed.specs.Starting.{first_unknown, least_within, tracked_of}
use Rattle.tdf_sim_resumed.specs.Valid.{AreAlikeColumns, IsValidColumn}
use Rattle.tdf_sim_shown.specs.Resumed.{CanGoOnFrom}
use Rattle.tdf_sim_traces.specs.Periods.{ClockAt, positions_in}
use Rattle.tdf_sim_traces.specs.Signals.{IsListed}
use Rattle.tdf_sim_traces.specs.declared.signals.TracedSignal.{TracedSignal}

-- clusters in progress tell the positions of the traced signals: each has done the entries of its
-- plan before the time, and a signal has less positions than a run has times
pub record CanTellColumns (flat : Flat) (clock : ClockAt) : Type 0 where
  pub can : CanGoOnFrom flat clock
  pub places : (n s : ℕ) (c : ClusterOf) → slice_get clock.since n ≡ Some s
      → slice_get clock.clusters n ≡ Some c → c.place ≡ due_before s clock.time c.entries
  pub few : (t : TracedSignal) (c : ClusterOf) → IsListed flat t
      → slice_get clock.clusters t.cluster ≡ Some c → positions_in flat.tables c t < time_end

-- something holds of the clusters of each history that those in progress are
abbrev pub WhereTheyStand : Flat → ClockAt → (List ClusterAt → Type 0) → Type 0
WhereTheyStand flat clock Holds = (model : PureTree) (clusters : List ClusterAt)
    → AreAt model flat clock.since clusters clock.clusters → Holds clusters

-- the time from which rows are still to be written, by clusters at a time
abbrev pub rows_among : Flat → List ClusterAt → (time : ℕ) → ℕ
rows_among flat clusters time = least_within time (map (λ row. first_unknown time
    (tracked_of flat.tables clusters row)) flat.tables.traces)

-- the columns of a snapshot are ones that a run can go on from, with its clusters
pub record AreGoodColumns (flat : Flat) (clusters : List ClusterAt) (s : SnapshotOf) : Type 0 where
  pub each : (n : ℕ) (row : TraceRow) (column : ColumnStateOf)
      → slice_get flat.tables.traces n ≡ Some row → slice_get s.columns n ≡ Some column
      → IsValidColumn flat (rows_among flat clusters s.time) s row
      (tracked_of flat.tables clusters row) column
  pub alike : AreAlikeColumns flat s
