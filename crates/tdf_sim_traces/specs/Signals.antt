-- The traced signals of samples, and the ports that drive them.
-- Source: own.
use Rattle.std.specs.Prelude.{◌≡◌, ◌<◌, ℕ, true, false, ◌+◌, IfSome, List, None, Option, Some, if◌then◌else◌, length, option_map, slice_get, slice_index}
use Rattle.tdf_bind_tables.specs.FlatTables.{FlatTablesOf}
use Rattle.tdf_dynamic_plans.specs.Attributes.{clusters_of}
use Rattle.tdf_bind.specs.declared.model.Flat.{Flat}
use Rattle.tdf_sim_history.specs.Cells.{driver_of_row}
use Rattle.tdf_sim_traces.specs.declared.signals.TracedSignal.{TracedSignal}
use Rattle.tdf_sim_refinement.specs.Samples.{IsTracedPort}
use Rattle.tdf_lang_tree.specs.declared.blocks.PortKind.TheVariants.{Out}
use Rattle.tdf_bind_connections.specs.declared.modules.PortRow.{PortRow}
use Rattle.tdf_bind_connections.specs.declared.traces.TraceRow.{TraceRow}

-- the port of a number, of a module of cluster n from 0, drives a traced signal of samples
pub record DrivesTraced (flat : Flat) (n number : ℕ) (port : PortRow) : Type 0 where
  pub traced : IsTracedPort flat (n + 1) number port
  pub driver : driver_of_row (slice_get flat.tables.signals port.signal) ≡ Some number

-- what is listed of it
pub record IsListed (flat : Flat) (t : TracedSignal) : Type 0 where
  pub port : PortRow
  pub drives : DrivesTraced flat t.cluster t.port port
  pub module_is : t.«module» ≡ port.«module»
  pub signal_is : t.signal ≡ port.signal

-- a signal is in a list
pub record IsSignalOf (list : List TracedSignal) (signal : ℕ) : Type 0 where
  pub place : ℕ
  pub it : TracedSignal
  pub there : slice_get list place ≡ Some it
  pub same : it.signal ≡ signal

-- each traced signal of samples that a port of a module drives is listed, once, and no other is
pub record AreTracedSignals (flat : Flat) (list : List TracedSignal) : Type 0 where
  pub are : (k : ℕ) (t : TracedSignal) → slice_get list k ≡ Some t → IsListed flat t
  pub once : (i j : ℕ) (t u : TracedSignal) → slice_get list i ≡ Some t → slice_get list j ≡ Some u
      → t.signal ≡ u.signal → i ≡ j
  pub all : (column number : ℕ) (row : TraceRow) → slice_get flat.tables.traces column ≡ Some row
      → row.event ≡ false → driver_of_row (slice_get flat.tables.signals row.signal) ≡ Some number
      → IsSignalOf list row.signal

-- an `out` port of a module writes a signal, and its module is in a cluster
pub record IsDriverOf (tables : FlatTablesOf) (signal number : ℕ) : Type 0 where
  pub port : PortRow
  pub there : slice_get tables.ports number ≡ Some port
  pub kind_is : port.kind ≡ Out
  pub writes : port.signal ≡ signal
  pub inside : port.«module» < length tables.actors
  pub cluster : 0 < slice_index (clusters_of tables) port.«module»

-- the tables tell the signal of each trace, and the port of each signal of samples that has one
pub record AreTold (tables : FlatTablesOf) : Type 0 where
  pub samples : (column : ℕ) (row : TraceRow) → slice_get tables.traces column ≡ Some row
      → row.event ≡ false → row.signal < length tables.signals
  pub events : (column : ℕ) (row : TraceRow) → slice_get tables.traces column ≡ Some row
      → row.event ≡ true → row.signal < length tables.de_signals
  pub drivers : (signal number : ℕ) → driver_of_row (slice_get tables.signals signal) ≡ Some number
      → IsDriverOf tables signal number

-- the signal of samples that a trace shows, where a port drives it
abbrev pub driven_of : FlatTablesOf → TraceRow → Option ℕ
driven_of tables row = if row.event then None else option_map (λ (number : ℕ). row.signal)
    (driver_of_row (slice_get tables.signals row.signal))

-- what is listed of the trace of a column
pub record IsTracedAt (flat : Flat) (column : ℕ) (traced : Option TracedSignal) : Type 0 where
  pub signal : (row : TraceRow) → slice_get flat.tables.traces column ≡ Some row
      → option_map (λ (t : TracedSignal). t.signal) traced ≡ driven_of flat.tables row
  pub listed : IfSome traced (IsListed flat)
