-- A column from the text's start on: its positions are those of the periods from the time 0, its
-- samples are those of its signal, and before them it shows what its signal has settled.
-- Source: own.
use Rattle.std.specs.Prelude.{◌≡◌, ◌+◌, ℕ, ℤ, if◌then◌else◌, List, ◌∷◌, None, Some, slice_get}
use Rattle.tdf_bind.specs.declared.model.Flat.{Flat}
use Rattle.tdf_bind_connections.specs.declared.modules.PortRow.{PortRow}
use Rattle.tdf_bind_connections.specs.declared.traces.TraceRow.{TraceRow}
use Rattle.tdf_bind_tables.specs.FlatTables.{FlatTablesOf}
use Rattle.tdf_dynamic_first.specs.declared.first.First.{First}
use Rattle.tdf_fixed.specs.declared.raw.Raw.{Raw}
use Rattle.tdf_lang_tree.specs.Pure.{PureTree}
use Rattle.tdf_sim_history.specs.Cells.{column_spans, driver_of_row, outputs_done, sample_of, samples_done, spans_from, value_before}
use Rattle.tdf_sim_history.specs.Columns.{start_of}
use Rattle.tdf_sim_history.specs.Rules.{rules_of, start_world}
use Rattle.tdf_sim_history.specs.Start.{text_column}
use Rattle.tdf_sim_history.specs.World.{Change, ClusterAt}
use Rattle.tdf_sim_history.specs.WorldLaws.{HoldsFirst}
use Rattle.tdf_streams.specs.Net.{Past}
use Rattle.tdf_streams.specs.Periods.{PeriodRecord}
use Rattle.tdf_streams.specs.Signals.{signal_sample}

pub record TextColumns : Type 0 where
  pub spans : (tables : FlatTablesOf) (row : TraceRow) (port : PortRow) (p : PeriodRecord)
      → (ps : List PeriodRecord) → column_spans port (text_column tables row) 0 (p ∷ ps)
      ≡ spans_from port 0 (p ∷ ps)
  pub holds : (tables : FlatTablesOf) (row : TraceRow) (port : PortRow) (p : PeriodRecord)
      → (ps : List PeriodRecord) → p.counts ≡ p.info.counts
      → HoldsFirst (text_column tables row) port (p ∷ ps)
  pub samples : (tables : FlatTablesOf) (row : TraceRow) (port : PortRow)
      → (periods : List PeriodRecord) (number j : ℕ) (past : Past (List ℤ) Raw)
      → driver_of_row (slice_get tables.signals row.signal) ≡ Some number
      → slice_get tables.ports number ≡ Some port
      → sample_of (text_column tables row) periods port number past j
      ≡ signal_sample tables periods port number past j
  pub many : (tables : FlatTablesOf) (row : TraceRow) (port : PortRow) (number : ℕ) (c : ClusterAt)
      → driver_of_row (slice_get tables.signals row.signal) ≡ Some number
      → slice_get tables.ports number ≡ Some port
      → samples_done (text_column tables row) port c ≡ port.delay + outputs_done port c
  pub carry : (model : PureTree) (flat : Flat) (firsts : List First) (ahead : List (List Change))
      → (turns column : ℕ) (row : TraceRow) → slice_get flat.tables.traces column ≡ Some row
      → (start_of (start_world model flat firsts ahead turns).shown column).carry
      ≡ (if row.event then Some (value_before model flat (rules_of model flat)
      (start_world model flat firsts ahead turns) row.signal 0) else None)
