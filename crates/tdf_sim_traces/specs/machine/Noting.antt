-- The first columns of event signals show the values of a time.
-- Source: own.
use Rattle.std.specs.Prelude.{◌≡◌, ◌<◌, ◌≤◌, ℕ, zero, suc, true, if◌then◌else◌, List, Option, Some, None, length, slice_get}
use Rattle.tdf_trace.specs.Calls.{Holds}
use Rattle.tdf_trace.specs.Tracked.{TrackedOf}
use Rattle.tdf_fixed.specs.declared.raw.Raw.{Raw}
use Rattle.tdf_sim_history.specs.Cells.{is_same_value}
use Rattle.tdf_trace_rows.specs.Noted.{with_noted_cell}
use Rattle.tdf_trace_rows.specs.Positions.{Span}
use Rattle.tdf_trace_rows.specs.Rows.{Cells}
use Rattle.tdf_trace_rows.specs.declared.cell.Cell.{Cell}
use Rattle.tdf_sim_traces.specs.Events.{value_of}
use Rattle.tdf_sim_traces.specs.declared.events.EventColumn.{EventColumn}
use Rattle.tdf_trace.specs.Stands.{RowsSeen, TraceSeen}
use Rattle.tdf_bind_connections.specs.declared.traces.TraceRow.{TraceRow}

-- a column that shows the value of a time
abbrev pub with_shown : List Raw → EventColumn → EventColumn
with_shown values e = record e { shown = value_of values e.signal }

-- its cell
abbrev pub cell_for : List Raw → (time : ℕ) → EventColumn → Cell
cell_for values time e =
    record { column = e.column; time = time; value = Some (value_of values e.signal) }

-- cells with that of a column, if its value is another one
abbrev pub with_change : List Raw → (time : ℕ) → Option EventColumn → Cells → Cells
with_change values time None cells = cells
with_change values time (Some e) cells = if is_same_value e.shown (value_of values e.signal)
    then cells else with_noted_cell cells (cell_for values time e)

-- with those of the first k columns
unfoldable pub with_changes : List Raw → (time : ℕ) → List EventColumn → (k : ℕ) → Cells → Cells
with_changes values time list zero cells = cells
with_changes values time list (suc k) cells =
    with_change values time (slice_get list k) (with_changes values time list k cells)

-- they are columns of traces of event signals
abbrev pub AreOfEvents : List TraceRow → List EventColumn → Type 0
AreOfEvents traces list = (k : ℕ) (e : EventColumn) → slice_get list k ≡ Some e
    → (row : TraceRow) × (slice_get traces e.column ≡ Some row) × (row.event ≡ true)

-- one column has been shown
abbrev pub TakesChange : List Raw → (time : ℕ) → EventColumn → (before after : RowsSeen) → Type 0
TakesChange values time e before after =
    (traces : List TraceRow) (cells : Cells) (spans : ℕ → List Span) (samples : ℕ → List Raw)
    (list : List TrackedOf) (row : TraceRow) → slice_get traces e.column ≡ Some row
    → row.event ≡ true → Holds traces cells spans samples list before
    → Holds traces (with_change values time (Some e) cells) spans samples list after

-- the first k
abbrev pub TakesChanges : List Raw → (time : ℕ) → List EventColumn → (k : ℕ)
    → (before after : RowsSeen) → Type 0
TakesChanges values time events k before after =
    (traces : List TraceRow) (cells : Cells) (spans : ℕ → List Span) (samples : ℕ → List Raw)
    (list : List TrackedOf) → AreOfEvents traces events
    → Holds traces cells spans samples list before
    → Holds traces (with_changes values time events k cells) spans samples list after

pub record HaveShown (values : List Raw) (k : ℕ) (old new : List EventColumn) : Type 0 where
  pub long : length new ≡ length old
  pub done : (j : ℕ) (e : EventColumn) → j < k → slice_get old j ≡ Some e
      → slice_get new j ≡ Some (with_shown values e)
  pub rest : (j : ℕ) → k ≤ j → slice_get new j ≡ slice_get old j

pub record IsShowing (values : List Raw) (time k : ℕ) (old new : List EventColumn)
    (before after : TraceSeen) : Type 0 where
  pub shown : HaveShown values k old new
  pub took : TakesChanges values time old k before.rows after.rows
  pub upto : after.rows.upto ≡ before.rows.upto
  pub stage : after.stage ≡ before.stage
  pub about : after.about ≡ before.about
