-- The lists of traced signals and of event columns, as far as the traces were looked at.
-- Source: own.
use Rattle.std.specs.Prelude.{◌≡◌, ◌<◌, ℕ, false, true, if◌then◌else◌, List, Option, Some, None, slice_get}
use Rattle.tdf_bind_tables.specs.FlatTables.{FlatTablesOf}
use Rattle.tdf_fixed.specs.declared.raw.Raw.{Raw}
use Rattle.tdf_bind.specs.declared.model.Flat.{Flat}
use Rattle.tdf_sim_history.specs.Cells.{driver_of_row}
use Rattle.tdf_sim_traces.specs.Events.{IsColumnOf, IsEventColumn}
use Rattle.tdf_sim_traces.specs.Signals.{IsListed, IsSignalOf}
use Rattle.tdf_sim_traces.specs.declared.events.EventColumn.{EventColumn}
use Rattle.tdf_sim_traces.specs.declared.signals.TracedSignal.{TracedSignal}
use Rattle.tdf_bind_connections.specs.declared.traces.TraceRow.{TraceRow}

-- the port that drives the signal of a trace of samples
abbrev pub driver_of_trace : FlatTablesOf → TraceRow → Option ℕ
driver_of_trace tables row =
    if row.event then None else driver_of_row (slice_get tables.signals row.signal)

-- a signal has a trace of its samples
pub record HasTrace (traces : List TraceRow) (signal : ℕ) : Type 0 where
  pub column : ℕ
  pub row : TraceRow
  pub there : slice_get traces column ≡ Some row
  pub samples : row.event ≡ false
  pub same : row.signal ≡ signal

pub record AreSignalsTo (flat : Flat) (count : ℕ) (list : List TracedSignal) : Type 0 where
  pub are : (k : ℕ) (t : TracedSignal) → slice_get list k ≡ Some t → IsListed flat t
  pub once : (i j : ℕ) (t u : TracedSignal) → slice_get list i ≡ Some t → slice_get list j ≡ Some u
      → t.signal ≡ u.signal → i ≡ j
  pub all : (column number : ℕ) (row : TraceRow) → column < count
      → slice_get flat.tables.traces column ≡ Some row → row.event ≡ false
      → driver_of_row (slice_get flat.tables.signals row.signal) ≡ Some number
      → IsSignalOf list row.signal

pub record AreColumnsTo (traces : List TraceRow) (values : List Raw) (count : ℕ)
    (list : List EventColumn) : Type 0 where
  pub are : (k : ℕ) (e : EventColumn) → slice_get list k ≡ Some e → IsEventColumn traces values e
  pub below : (k : ℕ) (e : EventColumn) → slice_get list k ≡ Some e → e.column < count
  pub once : (i j : ℕ) (e f : EventColumn) → slice_get list i ≡ Some e → slice_get list j ≡ Some f
      → e.column ≡ f.column → i ≡ j
  pub all : (column : ℕ) (row : TraceRow) → column < count → slice_get traces column ≡ Some row
      → row.event ≡ true → IsColumnOf list column
