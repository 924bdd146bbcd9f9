-- The windows of the traces: the positions of their signals in the periods of their clusters.
-- Source: own.
use Rattle.std.specs.Prelude.{◌≡◌, ◌<◌, ◌+◌, ◌*◌, ◌/◌, ◌^◌, ℕ, ℤ, true, false, if◌then◌else◌, IfSome, List, None, Option, Some, length, map, min, nat_lt, option_map, slice_get, take}
use Rattle.tdf_bind.specs.declared.model.Flat.{Flat}
use Rattle.tdf_bind_connections.specs.declared.modules.PortRow.{PortRow}
use Rattle.tdf_bind_connections.specs.declared.traces.TraceRow.{TraceRow}
use Rattle.tdf_bind_tables.specs.FlatTables.{FlatTablesOf}
use Rattle.tdf_lang_tree.specs.Pure.{PureTree}
use Rattle.tdf_saved.specs.State.{ColumnStateOf}
use Rattle.tdf_schedule.specs.Plan.{done}
use Rattle.tdf_sim_history.specs.World.{ClusterAt}
use Rattle.tdf_sim_resumed.specs.Below.{AreAt, ClusterOf}
use Rattle.tdf_sim_resumed.specs.Starting.{Tracked, known_count, position_count, tracked_of}
use Rattle.tdf_sim_resumed.specs.Valid.{IsValidEvents, IsValidNothing}
use Rattle.tdf_sim_shown.specs.Resumed.{skipped_in}
use Rattle.tdf_sim_traces.specs.Periods.{ClockAt, positions_in, row_rate}
use Rattle.tdf_sim_traces.specs.declared.signals.TracedSignal.{TracedSignal}
use Rattle.tdf_streams.specs.Signals.{step_in}
use Rattle.tdf_trace_states.specs.Windows.{IsSamplesState}
use Rattle.tdf_trace_states.specs.declared.windows.Window.{Window}

-- the samples of a port that are known before its first output
abbrev pub row_delay : Option PortRow → ℕ
row_delay None = 0
row_delay (Some row) = row.delay

-- as the code makes it of a cluster in progress
abbrev pub window_in : FlatTablesOf → (since : ℕ) → ClusterOf → TracedSignal → Window
window_in tables since c t = record {
  since = since;
  step = c.period / positions_in tables c t;
  count = positions_in tables c t;
  first = 0;
  known = row_delay (slice_get tables.ports t.port)
      + done c.entries c.place t.«module» * row_rate c.table (slice_get tables.ports t.port);
}

-- by the cluster of a history
abbrev pub window_by : Tracked → Window
window_by x = record {
  since = x.cluster.since;
  step = step_in x.port x.cluster.now;
  count = position_count x;
  first = 0;
  known = known_count x;
}

-- the times of all positions have 64 bits
abbrev pub HasRoom : Window → Type 0
HasRoom w = w.since + w.count * w.step < 2 ^ 64

abbrev pub HaveRoom : List (Option Window) → Type 0
HaveRoom windows = (k : ℕ) (w : Option Window) → slice_get windows k ≡ Some w → IfSome w HasRoom

-- a window is the one of a trace, for the clusters of each history that those in progress are
abbrev pub IsWindowAt : Flat → ClockAt → (column : ℕ) → Option Window → Type 0
IsWindowAt flat clock column window = (model : PureTree) (clusters : List ClusterAt)
    → (row : TraceRow) → AreAt model flat clock.since clusters clock.clusters
    → slice_get flat.tables.traces column ≡ Some row
    → window ≡ option_map window_by (tracked_of flat.tables clusters row)

abbrev pub AreWindowsOf : Flat → ClockAt → List (Option Window) → Type 0
AreWindowsOf flat clock windows = (model : PureTree) (clusters : List ClusterAt)
    → AreAt model flat clock.since clusters clock.clusters
    → windows ≡ map (λ row. option_map window_by (tracked_of flat.tables clusters row))
    flat.tables.traces

-- those of the first n traces
pub record AreWindowsTo (flat : Flat) (clock : ClockAt) (n : ℕ) (windows : List (Option Window))
    : Type 0 where
  pub long : length windows ≡ n
  pub are : (model : PureTree) (clusters : List ClusterAt)
      → AreAt model flat clock.since clusters clock.clusters
      → windows ≡ map (λ row. option_map window_by (tracked_of flat.tables clusters row))
      (take n flat.tables.traces)
  pub room : HaveRoom windows

-- the time of the first position without a sample, where one lies below a time; else that time
abbrev pub first_missing : (time : ℕ) → Option Window → ℕ
first_missing time None = time
first_missing time (Some w) =
    if nat_lt w.known w.count then min time (w.since + w.known * w.step) else time

-- a window whose rows are written up to a time
abbrev pub window_from : (rows : ℕ) → Window → Window
window_from rows w = record w { first = skipped_in w.since w.step w.count rows }

-- a run can go on from the column of a signal of samples with this window
abbrev pub IsSamplesBy : (rows : ℕ) → Option Window → ColumnStateOf → Type 0
IsSamplesBy rows None s = IsValidNothing s
IsSamplesBy rows (Some w) s = IsSamplesState rows (window_from rows w) s

-- from the column of a trace, and from all of them
abbrev pub IsColumnBy : Flat → (rows time : ℕ) → (values : List ℤ) → TraceRow → Option Window
    → ColumnStateOf → Type 0
IsColumnBy flat rows time values row window s =
    (row.event ≡ true → IsValidEvents flat rows time values row s)
    × (row.event ≡ false → IsSamplesBy rows window s)

abbrev pub AreColumnsBy : Flat → (rows time : ℕ) → (values : List ℤ) → List (Option Window)
    → List ColumnStateOf → Type 0
AreColumnsBy flat rows time values windows columns = (n : ℕ) (row : TraceRow)
    → (window : Option Window) (s : ColumnStateOf) → slice_get flat.tables.traces n ≡ Some row
    → slice_get windows n ≡ Some window → slice_get columns n ≡ Some s
    → IsColumnBy flat rows time values row window s
