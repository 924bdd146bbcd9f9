-- The columns of a run's trace: what its traces are of.
-- Source: own.
use Rattle.std.specs.Prelude.{Option, Some, None, option_map, List, filter_map, if◌then◌else◌, slice_get}
use Rattle.tdf_bind_tables.specs.FlatTables.{FlatTablesOf}
use Rattle.tdf_trace.specs.declared.about.Variable.{Variable}
use Rattle.tdf_bind_connections.specs.declared.drivers.SignalRow.{SignalRow}
use Rattle.tdf_bind_connections.specs.declared.traces.TraceRow.{TraceRow}

-- a signal of samples shows nothing before its first cell, an event signal its starting value
abbrev pub variable_for : TraceRow → SignalRow → Variable
variable_for row signal = record {
  label = row.label;
  format = signal.format;
  first = if row.event then Some signal.start else None;
}

abbrev pub traced_signal : FlatTablesOf → TraceRow → Option SignalRow
traced_signal tables row = if row.event then slice_get tables.de_signals row.signal
    else slice_get tables.signals row.signal

abbrev pub trace_variable : FlatTablesOf → TraceRow → Option Variable
trace_variable tables row = option_map (variable_for row) (traced_signal tables row)

-- one for each trace
abbrev pub variables_of : FlatTablesOf → List Variable
variables_of tables = filter_map (trace_variable tables) tables.traces
