-- The columns of the traces of event signals.
-- Source: own.
use Rattle.std.specs.Prelude.{◌≡◌, ◌≤◌, ◌&&◌, ℕ, true, nat_lt, if◌then◌else◌, List, Option, Some, None, length, slice_get, slice_index_or}
use Rattle.tdf_events.specs.Side.{SideOf}
use Rattle.tdf_fixed.specs.declared.raw.Raw.{Raw}
use Rattle.tdf_bind.specs.declared.model.Flat.{Flat}
use Rattle.tdf_sim_history.specs.Cells.{event_column_cell, world_before}
use Rattle.tdf_sim_history.specs.Columns.{ColumnStart, stamp_at, start_of}
use Rattle.tdf_sim_history.specs.World.{World}
use Rattle.tdf_trace_rows.specs.Rows.{Cells}
use Rattle.tdf_sim_traces.specs.declared.events.EventColumn.{EventColumn}
use Rattle.tdf_streams.specs.Cluster.{zero_sample}
use Rattle.tdf_lang_tree.specs.Pure.{PureTree}
use Rattle.tdf_bind_connections.specs.declared.traces.TraceRow.{TraceRow}
use Rattle.tdf_sim_history.specs.Rules.{rules_of}

-- the value of an event signal
abbrev pub value_of : List Raw → (signal : ℕ) → Raw
value_of values signal = slice_index_or values signal zero_sample

-- the values that the event signals have settled by all instants before a time
abbrev pub values_before : PureTree → Flat → (start : World SideOf) → (time : ℕ) → List Raw
values_before model flat start time =
    (world_before model flat (rules_of model flat) start time).events.values

-- the cell that the start of a column and the instants before a time give to a trace of an event
-- signal
abbrev pub event_before : PureTree → Flat → (start : World SideOf) → (from time : ℕ)
    → ColumnStart → Option TraceRow → Option (Option Raw)
event_before model flat start from time s None = None
event_before model flat start from time s (Some row) = if row.event && nat_lt time from
    then event_column_cell model flat (rules_of model flat) start s row.signal time else None

-- the cells of the traces of event signals by these instants; those of samples have none
abbrev pub events_before : PureTree → Flat → (start : World SideOf) → (from : ℕ) → Cells
events_before model flat start from = record {
  columns = length flat.tables.traces;
  first = λ column. (start_of start.shown column).carry;
  at = λ column time. event_before model flat start from time
      (start_of start.shown column) (slice_get flat.tables.traces column);
}

-- from a time on the starts of the columns of event signals give no cell
abbrev pub EventsStartBefore : List TraceRow → List ColumnStart → (time : ℕ) → Type 0
EventsStartBefore traces shown time =
    (column : ℕ) (row : TraceRow) → slice_get traces column ≡ Some row
    → row.event ≡ true → (t : ℕ) → time ≤ t → stamp_at (start_of shown column).stamps t ≡ None

-- a column is that of a trace of an event signal, and shows the signal's value
pub record IsEventColumn (traces : List TraceRow) (values : List Raw) (e : EventColumn)
    : Type 0 where
  pub row : TraceRow
  pub there : slice_get traces e.column ≡ Some row
  pub event : row.event ≡ true
  pub signal_is : e.signal ≡ row.signal
  pub shown_is : e.shown ≡ value_of values row.signal

pub record IsColumnOf (list : List EventColumn) (column : ℕ) : Type 0 where
  pub place : ℕ
  pub it : EventColumn
  pub there : slice_get list place ≡ Some it
  pub same : it.column ≡ column

-- each trace of an event signal has its column in the list, once, and no other has
pub record AreEventColumns (traces : List TraceRow) (values : List Raw) (list : List EventColumn)
    : Type 0 where
  pub are : (k : ℕ) (e : EventColumn) → slice_get list k ≡ Some e → IsEventColumn traces values e
  pub once : (i j : ℕ) (e f : EventColumn) → slice_get list i ≡ Some e → slice_get list j ≡ Some f
      → e.column ≡ f.column → i ≡ j
  pub all : (column : ℕ) (row : TraceRow) → slice_get traces column ≡ Some row
      → row.event ≡ true → IsColumnOf list column
