-- How many samples go through an edge in one firing of its ends, under a table of attributes.
-- Source: own.
use Rattle.std.specs.Prelude.{◌≡◌, ◌<◌, ◌≤◌, ℕ, List, length, Some, All, slice_get, slice_index}
use Rattle.tdf_bind_tables.specs.FlatTables.{FlatTablesOf}
use Rattle.tdf_dynamic_plans.specs.Attributes.{AttrsOf}
use Rattle.tdf_dynamic_plans.specs.Rates.{net_of, port_rate}
use Rattle.tdf_expr.specs.Made.{port_spans_of}
use Rattle.tdf_expr.specs.declared.spans.PortSpan.{PortSpan}
use Rattle.tdf_exec_firing.specs.Wires.{WiresOf}
use Rattle.tdf_exec_firing.specs.declared.wires.InWire.{InWire}
use Rattle.tdf_exec_firing.specs.declared.wires.OutWire.{OutWire}
use Rattle.tdf_bind_invariants.specs.Below.{Flat, IsFlatOf}
use Rattle.tdf_bind_invariants.specs.Formats.{IsSoundModel}
use Rattle.tdf_exec_layout.specs.Edges.{IsBetween, IsFromSampler, IsToSink}
use Rattle.tdf_exec_layout.specs.Wiring.{AreWiresOf}
use Rattle.tdf_streams.specs.Periods.{HasAllowedRates, read_rates, write_rates}
use Rattle.tdf_streams.specs.Places.{block_at}
use Rattle.tdf_lang_tree.specs.Pure.{PureTree}
use Rattle.tdf_bind_connections.specs.declared.edges.EdgeRow.{EdgeRow}
use Rattle.tdf_bind_connections.specs.declared.modules.PortRow.{PortRow}

-- as many are read, and as many are written
pub record AreRatesOf (tables : FlatTablesOf) (table : List AttrsOf) (e reads writes : ℕ)
    : Type 0 where
  pub read : slice_index (read_rates (net_of tables table)) e ≡ reads
  pub written : slice_index (write_rates (net_of tables table)) e ≡ writes

-- those of both ports; a sampler puts one, and a sink takes one
abbrev pub PortsSetRates : Type 0
PortsSetRates = (tables : FlatTablesOf) (table : List AttrsOf) (e : ℕ) (edge : EdgeRow)
    (port : PortRow) (out : ℕ) (driver : PortRow) → slice_get tables.edges e ≡ Some edge
    → IsBetween tables edge port out driver
    → AreRatesOf tables table e (port_rate table port) (port_rate table driver)

abbrev pub SamplersPutOne : Type 0
SamplersPutOne = (tables : FlatTablesOf) (table : List AttrsOf) (e : ℕ) (edge : EdgeRow)
    (port : PortRow) → slice_get tables.edges e ≡ Some edge → IsFromSampler tables edge port
    → AreRatesOf tables table e (port_rate table port) 1

abbrev pub SinksTakeOne : Type 0
SinksTakeOne = (tables : FlatTablesOf) (table : List AttrsOf) (e : ℕ) (edge : EdgeRow)
    (port : PortRow) → slice_get tables.edges e ≡ Some edge → IsToSink tables edge port
    → AreRatesOf tables table e 1 (port_rate table port)

-- no rate of a wire is above the greatest of its port
pub record AreRatesWithin (tables : FlatTablesOf) (table : List AttrsOf) (wires : WiresOf)
    (spans : List PortSpan) : Type 0 where
  pub read : (j : ℕ) (w : InWire) (p : PortSpan) → slice_get wires.ins j ≡ Some w
      → slice_get spans w.port ≡ Some p
      → slice_index (read_rates (net_of tables table)) w.edge ≤ p.count
  pub written : (j : ℕ) (w : OutWire) (p : PortSpan) → slice_get wires.outs j ≡ Some w
      → slice_get spans w.port ≡ Some p
      → slice_index (write_rates (net_of tables table)) w.edge ≤ p.count

-- so it is where the values of rate variables are allowed
abbrev pub RatesAreWithin : Type 0
RatesAreWithin = (model : PureTree) (flat : Flat) (table : List AttrsOf) (m : ℕ)
    (wires : WiresOf) → IsSoundModel model → IsFlatOf model flat
    → All (HasAllowedRates flat) table → m < length flat.tables.modules
    → AreWiresOf flat.tables m wires → AreRatesWithin flat.tables table wires
    (port_spans_of flat.checked (block_at flat.tables.modules m))
