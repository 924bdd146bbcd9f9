-- The cells of a trace that a history gives.
-- Source: own.
use Rattle.std.specs.Ordering.{int_eq}
use Rattle.std.specs.Prelude.{ℕ, ◌+◌, ◌-◌, ◌*◌, Bool, ◌&&◌, nat_eq, nat_lt, if◌then◌else◌, Option, Some, None, option_map, List, [], ◌∷◌, ◌++◌, ℤ, length, slice_get, slice_index, slice_index_or}
use Rattle.std.specs.List.{sum_by}
use Rattle.tdf_dynamic_plans.specs.Attributes.{clusters_of}
use Rattle.tdf_fixed.specs.declared.raw.Raw.{Raw}
use Rattle.tdf_dynamic.specs.Below.{Flat, Past, PeriodRecord, cluster_net, firings, known, outputs_in, port_output, positions, rate_in, step_in, zero_sample}
use Rattle.tdf_sim_history.specs.Instant.{RunFault, acts_now, engine, periods_of, run_in}
use Rattle.tdf_sim_history.specs.Columns.{ColumnStart, held_by, span_after, spans_to, stamp_at, start_of}
use Rattle.tdf_sim_history.specs.World.{ClusterAt, Rules, World}
use Rattle.tdf_sim_history.specs.History.{HistoryState, On, Stopped, Spent, history}
use Rattle.tdf_trace_rows.specs.Positions.{Span, position_at, span_of}
use Rattle.tdf_trace_rows.specs.Rows.{Cells}
use Rattle.tdf_lang_tree.specs.Pure.{PureTree}
use Rattle.tdf_bind_connections.specs.declared.drivers.SignalRow.{SignalRow}
use Rattle.tdf_bind_connections.specs.declared.modules.PortRow.{PortRow}
use Rattle.tdf_bind_connections.specs.declared.traces.TraceRow.{TraceRow}

-- the positions of a port's signal in some periods, the first of which begins at a time
abbrev pub spans_from : PortRow → (time : ℕ) → List PeriodRecord → List Span
spans_from port time [] = []
spans_from port time (p ∷ ps) = span_of time (step_in port p) (positions port p)
    ∷ spans_from port (time + p.info.period) ps

-- those that a column has from its start on: samples at their times, and then periods
abbrev pub column_spans : PortRow → ColumnStart → (origin : ℕ) → List PeriodRecord → List Span
column_spans port s origin [] = []
column_spans port s origin (p ∷ ps) = spans_to s.stamps (origin + s.skipped * step_in port p)
    ++ span_after origin (step_in port p) (positions port p) s.skipped
    ∷ spans_from port (origin + p.info.period) ps

-- outputs of a port that are there: those of the activations since the start that are done
abbrev pub outputs_done : PortRow → ClusterAt → ℕ
outputs_done port c =
    sum_by (outputs_in port) c.old + acts_now c port.«module» * rate_in port c.now

-- samples of a column that are there: those that its start holds, and the outputs
abbrev pub samples_done : ColumnStart → PortRow → ClusterAt → ℕ
samples_done s port c = length (held_by s) + outputs_done port c

-- sample j of a column: one that its start holds, or an output since
abbrev pub sample_of : ColumnStart → List PeriodRecord → PortRow → (number : ℕ)
    → Past (List ℤ) Raw → ℕ → Option Raw
sample_of s periods port number past j = if nat_lt j (length (held_by s))
    then slice_get (held_by s) j else port_output periods port number past (j - length (held_by s))

-- the sample at a position, unknown where it isn't there yet
abbrev pub sample_at : PureTree → Flat → (cluster : ℕ) → ClusterAt → ColumnStart → PortRow
    → (number j : ℕ) → Option Raw
sample_at model flat cluster c s port number j = if nat_lt j (samples_done s port c)
    then sample_of s (periods_of c) port number
    (known (cluster_net model flat cluster c.begun) (run_in c) (firings (periods_of c))) j
    else None

-- the cell of a time: none where no position has it
abbrev pub port_cell : PureTree → Flat → (cluster : ℕ) → ColumnStart → PortRow
    → (number time : ℕ) → Option ClusterAt → Option (Option Raw)
port_cell model flat cluster s port number time None = None
port_cell model flat cluster s port number time (Some c) =
    option_map (sample_at model flat cluster c s port number)
    (position_at 0 (column_spans port s c.origin (periods_of c)) time)

abbrev pub driven_cell : PureTree → Flat → ColumnStart → (time : ℕ) → List ClusterAt
    → (number : ℕ) → Option PortRow → Option (Option Raw)
driven_cell model flat s time clusters number None = None
driven_cell model flat s time clusters number (Some port) =
    port_cell model flat (slice_index (clusters_of flat.tables) port.«module») s port number time
    (slice_get clusters (slice_index (clusters_of flat.tables) port.«module» - 1))

abbrev pub driver_of_row : Option SignalRow → Option ℕ
driver_of_row None = None
driver_of_row (Some signal) = signal.driver

abbrev pub cell_by_driver : PureTree → Flat → ColumnStart → (time : ℕ) → List ClusterAt
    → Option ℕ → Option (Option Raw)
cell_by_driver model flat s time clusters None = None
cell_by_driver model flat s time clusters (Some number) =
    driven_cell model flat s time clusters number (slice_get flat.tables.ports number)

-- the cell of a signal of samples, in a column with such a start
abbrev pub signal_cell : PureTree → Flat → ColumnStart → (time : ℕ) → List ClusterAt
    → (signal : ℕ) → Option (Option Raw)
signal_cell model flat s time clusters signal = cell_by_driver model flat s time clusters
    (driver_of_row (slice_get flat.tables.signals signal))

-- an event signal has a cell where an instant changed its settled value
abbrev pub is_same_value : Raw → Raw → Bool
is_same_value a b = int_eq a.num b.num && nat_eq a.frac b.frac

abbrev pub changed_cell : Raw → Raw → Option (Option Raw)
changed_cell before after = if is_same_value before after then None else Some (Some after)

-- and a column of it where its start has a sample
abbrev pub cell_or : Option Raw → Option (Option Raw) → Option (Option Raw)
cell_or None cell = cell
cell_or (Some value) cell = Some (Some value)

module _ {K : Type 0} where
  -- what there is in a state of the history
  abbrev pub world_of : HistoryState (World K) RunFault → World K
  world_of (On w) = w
  world_of (Stopped time fault w) = w
  world_of (Spent time w) = w

  abbrev pub world_before : PureTree → Flat → Rules K → World K → (time : ℕ) → World K
  world_before model flat rules start time =
      world_of (history (engine model flat rules) 0 start time)

  -- the value that an event signal has settled by all instants before a time
  abbrev pub value_before : PureTree → Flat → Rules K → World K → (signal time : ℕ) → Raw
  value_before model flat rules start signal time = slice_index_or
      (rules.event_side.values (world_before model flat rules start time).events)
      signal zero_sample

  abbrev pub event_cell : PureTree → Flat → Rules K → World K → (signal time : ℕ)
      → Option (Option Raw)
  event_cell model flat rules start signal time = changed_cell
      (value_before model flat rules start signal time)
      (value_before model flat rules start signal (time + 1))

  -- in a column with such a start
  abbrev pub event_column_cell : PureTree → Flat → Rules K → World K → ColumnStart
      → (signal time : ℕ) → Option (Option Raw)
  event_column_cell model flat rules start s signal time =
      cell_or (stamp_at s.stamps time) (event_cell model flat rules start signal time)

  abbrev pub trace_cell : PureTree → Flat → Rules K → World K → (end time : ℕ) → ColumnStart
      → Option TraceRow → Option (Option Raw)
  trace_cell model flat rules start end time s None = None
  trace_cell model flat rules start end time s (Some row) = if row.event
      then event_column_cell model flat rules start s row.signal time
      else signal_cell model flat s time (world_before model flat rules start end).clusters
      row.signal

  -- the cells of the traces of a model, by the history before an end
  abbrev pub run_cells : PureTree → Flat → Rules K → World K → (end : ℕ) → Cells
  run_cells model flat rules start end = record {
    columns = length flat.tables.traces;
    first = λ column. (start_of start.shown column).carry;
    at = λ column time. trace_cell model flat rules start end time
        (start_of start.shown column) (slice_get flat.tables.traces column);
  }
