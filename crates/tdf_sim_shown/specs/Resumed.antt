-- A trace that goes on from the columns of a snapshot.
-- Source: own.
use Rattle.std.specs.List.{count_by, range_with_len}
use Rattle.std.specs.Prelude.{◌≡◌, ◌<◌, ◌+◌, ◌*◌, ℕ, true, List, [], Some, length, nat_lt, slice_get, slice_index}
use Rattle.tdf_bind.specs.Flat.{IsFlatOf}
use Rattle.tdf_bind.specs.declared.model.Flat.{Flat}
use Rattle.tdf_bind_connections.specs.declared.traces.TraceRow.{TraceRow}
use Rattle.tdf_bind_invariants.specs.Limits.{AreWithinLimits}
use Rattle.tdf_dynamic_first.specs.declared.first.First.{First}
use Rattle.tdf_events.specs.State.{resumed_side}
use Rattle.tdf_fixed.specs.declared.raw.Raw.{Raw}
use Rattle.tdf_lang_tree.specs.Pure.{PureTree}
use Rattle.tdf_saved.specs.State.{ColumnStateOf, SnapshotOf}
use Rattle.tdf_sim_resumed.specs.Below.{AreAt, ClusterOf}
use Rattle.tdf_sim_resumed.specs.Resuming.{resumed_clusters}
use Rattle.tdf_sim_resumed.specs.Starting.{resumed_world, rows_from_saved}
use Rattle.tdf_sim_resumed.specs.Valid.{IsValid}
use Rattle.tdf_sim_traces.specs.Calls.{CanBeShown}
use Rattle.tdf_sim_traces.specs.Periods.{CanBegin, ClockAt}
use Rattle.tdf_sim_traces.specs.Shown.{IsShown}
use Rattle.tdf_sim_traces.specs.Signals.{IsListed}
use Rattle.tdf_sim_traces.specs.declared.shown.Shown.{Shown}
use Rattle.tdf_sim_traces.specs.declared.signals.TracedSignal.{TracedSignal}
use Rattle.tdf_trace.specs.Tracked.{AreSince}

-- the traces can be shown, and each traced signal has positions in the period of its cluster
pub record CanGoOnFrom (flat : Flat) (clock : ClockAt) : Type 0 where
  pub limits : AreWithinLimits flat
  pub shown : CanBeShown flat.tables
  pub since : (t : TracedSignal) → IsListed flat t → t.cluster < length clock.since
  pub clusters : (t : TracedSignal) → IsListed flat t → t.cluster < length clock.clusters
  pub can : (t : TracedSignal) (c : ClusterOf) → IsListed flat t
      → slice_get clock.clusters t.cluster ≡ Some c
      → CanBegin flat (slice_index clock.since t.cluster) c t

-- how many positions of a period lie before a time
abbrev pub skipped_in : (since step count rows : ℕ) → ℕ
skipped_in since step count rows =
    count_by (λ i. nat_lt (since + i * step) rows) (range_with_len 0 count)

-- each event signal of a trace has a value
abbrev pub HaveEventValues : List TraceRow → List Raw → Type 0
HaveEventValues traces values = (column : ℕ) (row : TraceRow)
    → slice_get traces column ≡ Some row → row.event ≡ true → row.signal < length values

-- the trace shows the world that a valid snapshot with these columns says
abbrev pub ShowsResumed : Flat → ClockAt → List ColumnStateOf → (values : List Raw) → (rows : ℕ)
    → Shown → Type 0
ShowsResumed flat clock columns values rows shown =
    (model : PureTree) (firsts : List First) (s : SnapshotOf) → IsFlatOf model flat
    → IsValid model flat firsts s → s.columns ≡ columns → s.time ≡ clock.time
    → rows_from_saved model flat firsts s ≡ rows
    → (resumed_side flat s.time s.kernel).values ≡ values
    → AreAt model flat clock.since (resumed_clusters model flat firsts s []) clock.clusters
    → IsShown model flat (resumed_world model flat firsts s []) s.time
    (resumed_world model flat firsts s []) shown

-- no position without a sample lies before the rows that are still to be written, where a valid
-- snapshot has these columns
abbrev pub LeavesSince : Flat → ClockAt → List ColumnStateOf → (rows : ℕ) → Shown → Type 0
LeavesSince flat clock columns rows shown =
    (model : PureTree) (firsts : List First) (s : SnapshotOf) → IsValid model flat firsts s
    → s.columns ≡ columns → rows_from_saved model flat firsts s ≡ rows
    → AreAt model flat clock.since (resumed_clusters model flat firsts s []) clock.clusters
    → AreSince rows shown.tracking.list
