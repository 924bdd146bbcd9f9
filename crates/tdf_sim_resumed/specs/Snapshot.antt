-- Which snapshot the world of a history has at a time.
-- Source: own.
use Rattle.std.specs.List.{flat_map, range_with_len}
use Rattle.std.specs.Prelude.{◌≡◌, ◌≢◌, ◌⊎◌, ◌<◌, ◌≤◌, ◌+◌, ◌-◌, ℕ, ℤ, All, Bool, true, List, [], ◌∷◌, None, Option, Some, length, map, option_map, slice_get, slice_index, slice_index_or}
use Rattle.tdf_bind.specs.declared.model.Flat.{Flat}
use Rattle.tdf_bind_connections.specs.declared.traces.TraceRow.{TraceRow}
use Rattle.tdf_bind_tables.specs.FlatTables.{FlatTablesOf}
use Rattle.tdf_dynamic_plans.specs.Attributes.{AttrsOf, clusters_of}
use Rattle.tdf_events.specs.Delta.{IsNoneBefore, is_idle}
use Rattle.tdf_events.specs.Runnable.{AreOfSignals, signal_formats}
use Rattle.tdf_events.specs.Side.{SideOf}
use Rattle.tdf_events.specs.State.{kernel_state_of}
use Rattle.tdf_sim_refinement.specs.Below.{HasRows, IsFilledTo, IsInPeriod, due_before, edge_format, edge_states, module_state, own_edges}
use Rattle.tdf_expr.specs.Frames.{IsOfFormat}
use Rattle.tdf_fixed.specs.declared.format.Format.{Format}
use Rattle.tdf_fixed.specs.declared.raw.Raw.{Raw}
use Rattle.tdf_graph.specs.declared.actors.Actor.TheVariants as actor
use Rattle.tdf_lang_tree.specs.Pure.{PureTree}
use Rattle.tdf_saved.specs.State.{ClusterStateOf, ColumnStateOf, KernelStateOf, SnapshotOf}
use Rattle.tdf_saved.specs.declared.state.Stamp.{Stamp as SavedStamp}
use Rattle.tdf_schedule.specs.declared.entry.Entry.{Entry}
use Rattle.tdf_sim_history.specs.Cells.{column_spans, driver_of_row, run_cells, sample_at, samples_done}
use Rattle.tdf_sim_history.specs.Columns.{ColumnStart, start_of}
use Rattle.tdf_sim_history.specs.History.{On}
use Rattle.tdf_sim_history.specs.Instant.{acts_now, periods_of, run_in}
use Rattle.tdf_sim_history.specs.Rules.{rules_of}
use Rattle.tdf_sim_history.specs.Texts.{state_at}
use Rattle.tdf_sim_history.specs.World.{ClusterAt, World}
use Rattle.tdf_sim_resumed.specs.Starting.{Tracked, tracked_of}
use Rattle.tdf_streams.specs.Cluster.{cluster_net}
use Rattle.tdf_streams.specs.Places.{actor_kind}
use Rattle.tdf_streams.specs.Stands.{Play, Stands}
use Rattle.tdf_trace_rows.specs.Positions.{count_of_spans}
use Rattle.tdf_trace_rows.specs.Rows.{Cells, last}

-- ---- the parts of a run

-- a time lies in a period, and the entries of its plan that are due before it are done, and no
-- others
pub record IsDoneTo (time since period place : ℕ) (entries : List Entry) : Type 0 where
  pub inside : IsInPeriod since time period
  pub place_is : place ≡ due_before since time entries

-- what a play holds, of a cluster with these attributes at a place of its plan: on each edge as
-- many samples as the firings so far leave there, of its format, and values of variables for
-- modules alone, each of which has its row
pub record HoldsOwn (tables : FlatTablesOf) (number : ℕ) (table : List AttrsOf)
    (entries : List Entry) (place : ℕ) (play : Play (List ℤ) Raw) : Type 0 where
  pub rows : HasRows tables number table
  pub left : (e : ℕ) → e < length tables.edges → IsFilledTo tables number table entries place e
      (length (slice_index_or play.lists e []))
  pub formats : (e : ℕ) (f : Format) → e < length tables.edges → edge_format tables e ≡ Some f
      → All (IsOfFormat f) (slice_index_or play.lists e [])
  pub none : (m : ℕ) → (actor_kind tables m ≡ Some actor.Module → ⊥)
      → slice_index_or play.states m [] ≡ []

-- the state of the cluster of this number at a time: when its period began, its table, and what the
-- cells and the edges of its streams hold after the activations that are done
pub record IsSavedCluster (model : PureTree) (flat : Flat) (number time : ℕ) (h : ClusterAt)
    (s : ClusterStateOf) : Type 0 where
  pub start : s.start ≡ h.since
  pub play : Play (List ℤ) Raw
  pub steps : ℕ
  pub turns : (m : ℕ) → slice_index play.turns m ≡ acts_now h m
  pub actors : length play.states ≡ length flat.tables.actors
  pub stands : Stands (cluster_net model flat number h.begun) h.old h.now (run_in h).reads steps
      play
  pub modules : s.modules ≡ map (module_state play.states) h.now.info.table
  pub edges : s.edges ≡ edge_states play.lists (own_edges flat.tables number)
  pub done : IsDoneTo time h.since h.now.info.period h.place h.entries
  pub own : HoldsOwn flat.tables number h.now.info.table h.entries h.place play

-- the states of all clusters
pub record AreSavedClusters (model : PureTree) (flat : Flat) (time : ℕ) (w : World SideOf)
    (states : List ClusterStateOf) : Type 0 where
  pub same : length states ≡ length w.clusters
  pub each : (n : ℕ) (h : ClusterAt) (s : ClusterStateOf) → slice_get w.clusters n ≡ Some h
      → slice_get states n ≡ Some s → IsSavedCluster model flat (n + 1) time h s

-- an event side between two instants, before a time: it has a part for each row of the model, and
-- values of their formats; nothing is pending before the time, and processes are to run at the
-- start alone
pub record IsSideBefore (flat : Flat) (time : ℕ) (side : SideOf) : Type 0 where
  pub values : AreOfSignals (signal_formats flat) side.values
  pub frames : length side.frames ≡ length flat.tables.blocks
  pub times : length side.notices.times ≡ length flat.tables.events
  pub triggered : length side.triggered ≡ length flat.tables.processes
  pub waiting : length side.waiting ≡ length flat.tables.de_signals
  pub none : IsNoneBefore time side.notices.times
  pub idle : 0 < time → is_idle side ≡ true

-- the state of the event side at a time
pub record IsSavedSide (flat : Flat) (time : ℕ) (side : SideOf) (s : KernelStateOf) : Type 0 where
  pub is : s ≡ kernel_state_of side
  pub before : IsSideBefore flat time side

-- ---- what the trace shows

-- the least time below another at which a column has a position whose sample isn't known; else that
-- other time
pub record IsRowsFrom (cells : Cells) (time rows : ℕ) : Type 0 where
  pub within : rows ≤ time
  pub known : (column t : ℕ) → column < cells.columns → t < rows → cells.at column t ≢ Some None
  pub one : (rows ≡ time) ⊎ ((column : ℕ) × (column < cells.columns)
      × (cells.at column rows ≡ Some None))

-- the samples that a column shows at times from one to another
abbrev pub stamp_of_cell : (time : ℕ) → Option (Option Raw) → List SavedStamp
stamp_of_cell time None = []
stamp_of_cell time (Some None) = []
stamp_of_cell time (Some (Some value)) = record { time = time; num = value.num } ∷ []

abbrev pub stamps_between : Cells → (column from to : ℕ) → List SavedStamp
stamps_between cells column from to =
    flat_map (λ time. stamp_of_cell time (cells.at column time)) (range_with_len from (to - from))

-- the end of the period of a traced signal of samples; events are shown up to the time itself
abbrev pub shown_until : (time : ℕ) → Option Tracked → ℕ
shown_until time None = time
shown_until time (Some x) = x.cluster.since + x.cluster.now.info.period

-- the samples of a signal that are known, but whose positions lie after the period
abbrev pub number_of_sample : Option Raw → List ℤ
number_of_sample None = []
number_of_sample (Some value) = value.num ∷ []

abbrev pub later_numbers : PureTree → Flat → ColumnStart → Tracked → (number : ℕ) → List ℤ
later_numbers model flat s x number = flat_map (λ j. number_of_sample (sample_at model flat
    (slice_index (clusters_of flat.tables) x.port.«module») x.cluster s x.port number j))
    (range_with_len (count_of_spans (column_spans x.port s x.cluster.origin (periods_of x.cluster)))
    (samples_done s x.port x.cluster
    - count_of_spans (column_spans x.port s x.cluster.origin (periods_of x.cluster))))

abbrev pub later_of : PureTree → Flat → ColumnStart → Option Tracked → (driver : Option ℕ) → List ℤ
later_of model flat s None driver = []
later_of model flat s (Some x) None = []
later_of model flat s (Some x) (Some number) = later_numbers model flat s x number

-- the state of a column, where rows are written from a time on: what it showed before it, what it
-- shows from there on, and what it has for later positions
pub record IsSavedColumn (model : PureTree) (flat : Flat) (start w : World SideOf)
    (cells : Cells) (rows time column : ℕ) (row : TraceRow) (s : ColumnStateOf) : Type 0 where
  pub carry : s.carry ≡ option_map (λ (value : Raw). value.num) (last cells column rows)
  pub samples : s.samples ≡ stamps_between cells column rows
      (shown_until time (tracked_of flat.tables w.clusters row))
  pub later : s.later ≡ later_of model flat (start_of start.shown column)
      (tracked_of flat.tables w.clusters row)
      (driver_of_row (slice_get flat.tables.signals row.signal))

-- the states of all columns
pub record AreSavedColumns (model : PureTree) (flat : Flat) (start w : World SideOf) (time : ℕ)
    (columns : List ColumnStateOf) : Type 0 where
  pub rows : ℕ
  pub rows_are : IsRowsFrom (run_cells model flat (rules_of model flat) start time) time rows
  pub same : length columns ≡ length flat.tables.traces
  pub each : (n : ℕ) (row : TraceRow) (s : ColumnStateOf)
      → slice_get flat.tables.traces n ≡ Some row → slice_get columns n ≡ Some s
      → IsSavedColumn model flat start w (run_cells model flat (rules_of model flat) start time)
      rows time n row s

-- ---- all together

-- the snapshot of a run at a time: its history from a start goes on up to it, and w is what there
-- is then
pub record IsSnapshot (model : PureTree) (flat : Flat) (start w : World SideOf) (time budget : ℕ)
    (vcd : Bool) (s : SnapshotOf) : Type 0 where
  pub reached : state_at model flat (rules_of model flat) start time ≡ On w
  pub vcd_is : s.vcd ≡ vcd
  pub time_is : s.time ≡ time
  pub used_is : s.used ≡ budget - w.left
  pub budget_is : s.budget ≡ budget
  pub clusters : AreSavedClusters model flat time w s.clusters
  pub side : IsSavedSide flat time w.events s.kernel
  pub columns : AreSavedColumns model flat start w time s.columns
