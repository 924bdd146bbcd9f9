-- The ports of a module whose signals are traced, and their samples of one activation.
-- Source: own.
use Rattle.std.specs.List.{range_with_len, sum_by}
use Rattle.std.specs.Prelude.{ℕ, List, map, Option, Some, None, slice_get, ℤ}
use Rattle.tdf_bind_tables.specs.FlatTables.{FlatTablesOf}
use Rattle.tdf_convert.specs.declared.outputs.Traced.{Traced}
use Rattle.tdf_dynamic_plans.specs.Attributes.{AttrsOf}
use Rattle.tdf_dynamic_plans.specs.Rates.{port_rate}
use Rattle.tdf_exec.specs.declared.runners.TracedPort.{TracedPort}
use Rattle.tdf_expr.specs.Frames.{PortsSeen}
use Rattle.tdf_exec_firing.specs.Activation.{assigned_sample}
use Rattle.tdf_fixed.specs.declared.raw.Raw.{Raw}
use Rattle.tdf_streams.specs.Net.{Turn}
use Rattle.tdf_streams.specs.Places.{place_of_port}
use Rattle.tdf_bind_connections.specs.declared.modules.PortRow.{PortRow}

abbrev pub signal_of_port_row : Option PortRow → ℕ
signal_of_port_row None = 0
signal_of_port_row (Some port) = port.signal

abbrev pub rate_of_row : List AttrsOf → Option PortRow → ℕ
rate_of_row table None = 0
rate_of_row table (Some port) = port_rate table port

-- a port of this number, as it is kept for its module
abbrev pub traced_port : FlatTablesOf → List AttrsOf → ℕ → TracedPort
traced_port tables table number = record {
  number = number;
  port = place_of_port tables.ports number;
  signal = signal_of_port_row (slice_get tables.ports number);
  rate = rate_of_row table (slice_get tables.ports number);
}

-- the same before it has a rate
abbrev pub unrated_port : FlatTablesOf → ℕ → TracedPort
unrated_port tables number = record {
  number = number;
  port = place_of_port tables.ports number;
  signal = signal_of_port_row (slice_get tables.ports number);
  rate = 0;
}

abbrev pub traced_sample : (signal : ℕ) → Raw → Traced
traced_sample signal value = record { signal = signal; value = value }

-- the first samples of such a port in its ports, and all of an activation
abbrev pub first_samples : PortsSeen → TracedPort → ℕ → List Traced
first_samples ports t count =
    map (λ k. traced_sample t.signal (assigned_sample ports.spans ports.state.samples t.port k))
    (range_with_len 0 count)

abbrev pub traced_port_samples : PortsSeen → TracedPort → List Traced
traced_port_samples ports t = first_samples ports t t.rate

-- its samples in an activation of its module, in a period with this table
abbrev pub turn_samples : FlatTablesOf → List AttrsOf → Turn (List ℤ) Raw → ℕ → List Traced
turn_samples tables table turn number =
    map (λ k. traced_sample (signal_of_port_row (slice_get tables.ports number))
    (turn.outputs number k))
    (range_with_len 0 (rate_of_row table (slice_get tables.ports number)))

-- how many they are in all
abbrev pub traced_count : List TracedPort → ℕ
traced_count list = sum_by (λ (t : TracedPort). t.rate) list
