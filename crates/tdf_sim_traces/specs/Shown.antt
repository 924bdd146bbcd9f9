-- When the trace of a run shows what the run has done.
-- Source: own.
use Rattle.std.specs.Prelude.{◌≡◌, ◌<◌, ◌≤◌, ◌+◌, ◌-◌, ℕ, false, List, [], Some, length, slice_get}
use Rattle.tdf_trace.specs.Calls.{Holds}
use Rattle.tdf_trace.specs.Tracked.{TrackedOf}
use Rattle.tdf_events.specs.Side.{SideOf}
use Rattle.tdf_fixed.specs.declared.raw.Raw.{Raw}
use Rattle.tdf_bind.specs.declared.model.Flat.{Flat}
use Rattle.tdf_sim_history.specs.Cells.{column_spans}
use Rattle.tdf_sim_history.specs.Columns.{ColumnStart, start_of}
use Rattle.tdf_sim_history.specs.WorldLaws.{HoldsFirst}
use Rattle.tdf_trace.specs.Tracks.{IsChain}
use Rattle.tdf_bind_connections.specs.declared.traces.TraceRow.{TraceRow}
use Rattle.tdf_sim_history.specs.Instant.{periods_of}
use Rattle.tdf_sim_history.specs.World.{ClusterAt, World}
use Rattle.tdf_trace_rows.specs.Positions.{Span}
use Rattle.tdf_sim_traces.specs.Events.{AreEventColumns, EventsStartBefore, events_before, values_before}
use Rattle.tdf_sim_traces.specs.Signals.{AreTracedSignals, DrivesTraced}
use Rattle.tdf_sim_traces.specs.declared.shown.Shown.{Shown}
use Rattle.tdf_sim_traces.specs.declared.signals.TracedSignal.{TracedSignal}
use Rattle.tdf_streams.specs.Signals.{time_of_periods}
use Rattle.tdf_sim_refinement.specs.Samples.{AreSamplesOf}
use Rattle.tdf_lang_tree.specs.Pure.{PureTree}
use Rattle.tdf_bind_connections.specs.declared.modules.PortRow.{PortRow}

-- the periods and samples of the signal that a port drives are those of the port's cluster, and
-- what is tracked of the signal has the period that has begun last
pub record IsShownOf (model : PureTree) (flat : Flat) (shown : List ColumnStart)
    (clusters : List ClusterAt) (n number : ℕ) (port : PortRow) (spans : ℕ → List Span)
    (samples : ℕ → List Raw) (list : List TrackedOf) : Type 0 where
  pub cluster : ClusterAt
  pub there : slice_get clusters n ≡ Some cluster
  -- its columns begin alike
  pub start : ColumnStart
  pub starts : (column : ℕ) (row : TraceRow) → slice_get flat.tables.traces column ≡ Some row
      → row.event ≡ false → row.signal ≡ port.signal → start_of shown column ≡ start
  pub first : HoldsFirst start port (periods_of cluster)
  pub chain : IsChain (spans port.signal)
  pub spans_are : spans port.signal ≡ column_spans port start cluster.origin (periods_of cluster)
  pub samples_are : AreSamplesOf model flat (n + 1) number port start cluster (samples port.signal)
  pub since : (place : ℕ) (t : TrackedOf) → slice_get list place ≡ Some t
      → t.signal ≡ port.signal → t.since ≡ cluster.since
  -- its next position without a sample lies in that period
  pub next : (place : ℕ) (t : TrackedOf) → slice_get list place ≡ Some t
      → t.signal ≡ port.signal → 0 < t.stamps.left → cluster.since ≤ t.stamps.time

-- the period of a cluster began before a time or at the start, when those before it were over
pub record HasBegunBefore (from : ℕ) (h : ClusterAt) : Type 0 where
  pub early : h.since ≤ from - 1
  pub after_old : h.since ≡ h.origin + time_of_periods h.old

-- after all instants before a time the trace holds what the run has given to its columns
pub record IsShown (model : PureTree) (flat : Flat) (start : World SideOf) (from : ℕ)
    (w : World SideOf) (s : Shown) : Type 0 where
  pub spans : ℕ → List Span
  pub samples : ℕ → List Raw
  pub holds : Holds flat.tables.traces (events_before model flat start from) spans samples
      s.tracking.list s.trace.rows
  pub signals : AreTracedSignals flat s.signals.items
  pub each : (n number : ℕ) (port : PortRow) → DrivesTraced flat n number port
      → IsShownOf model flat start.shown w.clusters n number port spans samples s.tracking.list
  -- a signal that is not listed has no positions
  pub none : (signal : ℕ) → ((place : ℕ) (t : TracedSignal)
      → slice_get s.signals.items place ≡ Some t → t.signal ≡ signal → ⊥) → spans signal ≡ []
  pub events : AreEventColumns flat.tables.traces (values_before model flat start from)
      s.events.items
  pub stamped : EventsStartBefore flat.tables.traces start.shown from
  pub begun : (n : ℕ) (h : ClusterAt) → slice_get w.clusters n ≡ Some h → HasBegunBefore from h
  -- the trace and the tracking have a column for each trace
  pub width : s.tracking.width ≡ length flat.tables.traces
  pub columns : length s.trace.about.variables ≡ length flat.tables.traces
