-- What the columns of a trace show from a snapshot on, and the world that it says.
-- Source: own.
use Rattle.std.specs.List.{count_by, filter, range_with_len, zip}
use Rattle.std.specs.Option.{option_and_then}
use Rattle.std.specs.Prelude.{ℕ, ℤ, ◌+◌, ◌-◌, ◌*◌, List, [], ◌∷◌, ◌++◌, None, Option, Some, if◌then◌else◌, map, min, nat_lt, not, option_map, slice_get, slice_index}
use Rattle.tdf_bind.specs.declared.model.Flat.{Flat}
use Rattle.tdf_bind_connections.specs.declared.drivers.SignalRow.{SignalRow}
use Rattle.tdf_bind_connections.specs.declared.modules.PortRow.{PortRow}
use Rattle.tdf_bind_connections.specs.declared.traces.TraceRow.{TraceRow}
use Rattle.tdf_bind_tables.specs.FlatTables.{FlatTablesOf}
use Rattle.tdf_dynamic_first.specs.declared.first.First.{First}
use Rattle.tdf_dynamic_plans.specs.Attributes.{clusters_of}
use Rattle.tdf_events.specs.Side.{SideOf}
use Rattle.tdf_events.specs.State.{resumed_side}
use Rattle.tdf_fixed.specs.declared.raw.Raw.{Raw}
use Rattle.tdf_lang_tree.specs.Pure.{PureTree}
use Rattle.tdf_saved.specs.State.{ColumnStateOf, SnapshotOf}
use Rattle.tdf_saved.specs.declared.state.Stamp.{Stamp as SavedStamp}
use Rattle.tdf_schedule.specs.Plan.{done}
use Rattle.tdf_sim_history.specs.Cells.{driver_of_row}
use Rattle.tdf_sim_history.specs.Columns.{ColumnStart, Stamp}
use Rattle.tdf_sim_history.specs.World.{Change, ClusterAt, World}
use Rattle.tdf_sim_resumed.specs.Resuming.{resumed_clusters}
use Rattle.tdf_streams.specs.Cluster.{fraction_of_row}
use Rattle.tdf_streams.specs.Signals.{positions, rate_in, step_in}

-- ---- a traced signal of samples, in the period of its cluster

-- the port that drives it, and the cluster of that
pub record Tracked : Type 0 where
  pub port : PortRow
  pub cluster : ClusterAt

-- the cluster of a port
abbrev pub cluster_of_port : FlatTablesOf → List ClusterAt → PortRow → Option ClusterAt
cluster_of_port tables clusters port =
    slice_get clusters (slice_index (clusters_of tables) port.«module» - 1)

abbrev pub tracked_port : FlatTablesOf → List ClusterAt → PortRow → Option Tracked
tracked_port tables clusters port = option_map
    (λ (c : ClusterAt). record { port = port; cluster = c }) (cluster_of_port tables clusters port)

abbrev pub tracked_signal : FlatTablesOf → List ClusterAt → (signal : ℕ) → Option Tracked
tracked_signal tables clusters signal = option_and_then (tracked_port tables clusters)
    (option_and_then (slice_get tables.ports)
    (driver_of_row (slice_get tables.signals signal)))

-- that of a trace; an event signal has none
abbrev pub tracked_of : FlatTablesOf → List ClusterAt → TraceRow → Option Tracked
tracked_of tables clusters row =
    if row.event then None else tracked_signal tables clusters row.signal

-- its positions in the period, and the time of one of them
abbrev pub position_count : Tracked → ℕ
position_count x = positions x.port x.cluster.now

abbrev pub time_of_position : Tracked → ℕ → ℕ
time_of_position x i = x.cluster.since + i * step_in x.port x.cluster.now

-- the samples from the first position on that are known: the initial ones, and the outputs of the
-- activations that are done; those that the period has no position for are for later ones
abbrev pub known_count : Tracked → ℕ
known_count x = x.port.delay
    + done x.cluster.entries x.cluster.place x.port.«module» * rate_in x.port x.cluster.now

-- ---- the time from which rows are still to be written

-- the time of the first position of the period without a sample, where one lies below a time; else
-- that time
abbrev pub first_unknown : (time : ℕ) → Option Tracked → ℕ
first_unknown time None = time
first_unknown time (Some x) = if nat_lt (known_count x) (position_count x)
    then min time (time_of_position x (known_count x)) else time

-- the least of some times, or the limit
unfoldable pub least_within : (limit : ℕ) → List ℕ → ℕ
least_within limit [] = limit
least_within limit (time ∷ times) = min time (least_within limit times)

-- the least time of a position of a traced signal without a sample, or the time of the snapshot
abbrev pub rows_from_saved : PureTree → Flat → List First → SnapshotOf → ℕ
rows_from_saved model flat firsts s = least_within s.time (map (λ row. first_unknown s.time
    (tracked_of flat.tables (resumed_clusters model flat firsts s []) row)) flat.tables.traces)

-- ---- columns

-- the row of the signal of a trace
abbrev pub row_of_trace : FlatTablesOf → TraceRow → Option SignalRow
row_of_trace tables row =
    if row.event then slice_get tables.de_signals row.signal
    else slice_get tables.signals row.signal

-- a number as a value of that signal, and at a time
abbrev pub value_of_trace : FlatTablesOf → TraceRow → ℤ → Raw
value_of_trace tables row num =
    record { num = num; frac = fraction_of_row (row_of_trace tables row) }

abbrev pub stamp_of_trace : FlatTablesOf → TraceRow → SavedStamp → Stamp
stamp_of_trace tables row x =
    record { time = x.time; value = value_of_trace tables row x.num }

-- the samples of a column before a time, and from it on
abbrev pub stamps_before : (time : ℕ) → ColumnStateOf → List SavedStamp
stamps_before time s = filter (λ (x : SavedStamp). nat_lt x.time time) s.samples

abbrev pub stamps_from : (time : ℕ) → ColumnStateOf → List SavedStamp
stamps_from time s = filter (λ (x : SavedStamp). not (nat_lt x.time time)) s.samples

-- the positions of the period that lie before a time
abbrev pub positions_before : (time : ℕ) → Tracked → ℕ
positions_before time x = count_by (λ i. nat_lt (time_of_position x i) time)
    (range_with_len 0 (position_count x))

-- the samples for the positions from there on: those with a time, then the later ones
abbrev pub numbers_ahead : (start : ℕ) → ColumnStateOf → List ℤ
numbers_ahead start s = map (λ (x : SavedStamp). x.num) (stamps_from start s) ++ s.later

-- what the column of a trace shows, where rows are written from a time on: an event signal changed
-- at the times of its samples; a signal of samples has those of earlier periods at their times, and
-- then its positions from that time on
abbrev pub column_start_of : FlatTablesOf → (rows : ℕ) → TraceRow → ColumnStateOf → Option Tracked
    → ColumnStart
column_start_of tables rows row s None = record {
  carry = option_map (value_of_trace tables row) s.carry;
  stamps = map (stamp_of_trace tables row) s.samples;
  skipped = 0;
  ahead = [];
}
column_start_of tables rows row s (Some x) = record {
  carry = option_map (value_of_trace tables row) s.carry;
  stamps = map (stamp_of_trace tables row) (stamps_before x.cluster.since s);
  skipped = positions_before rows x;
  ahead = map (value_of_trace tables row) (numbers_ahead x.cluster.since s);
}

abbrev pub column_starts : PureTree → Flat → List First → SnapshotOf → List ColumnStart
column_starts model flat firsts s = map (λ (c : TraceRow × ColumnStateOf).
    column_start_of flat.tables (rows_from_saved model flat firsts s) c.0 c.1
    (tracked_of flat.tables (resumed_clusters model flat firsts s []) c.0))
    (zip flat.tables.traces s.columns)

-- ---- the world

-- what there is at the time of a snapshot, with what is told of the boundaries to come; the turns
-- that were used are gone
abbrev pub resumed_world : PureTree → Flat → List First → SnapshotOf → (ahead : List (List Change))
    → World SideOf
resumed_world model flat firsts s ahead = record {
  clusters = resumed_clusters model flat firsts s ahead;
  events = resumed_side flat s.time s.kernel;
  left = s.budget - s.used;
  written = [];
  planned = [];
  shown = column_starts model flat firsts s;
}
