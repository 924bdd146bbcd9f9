-- The edges between modules, samplers and sinks.
-- Source: own.
use Rattle.std.specs.List.{enumerate_from}
use Rattle.std.specs.Prelude.{◌+◌, ◌≤◌, ℕ, Bool, true, false, List, length, take, Option, Some, None, filter, filter_map, slice_get}
use Rattle.tdf_base.specs.Limits.{greatest_delay}
use Rattle.tdf_lang_tree.specs.declared.blocks.PortKind.{PortKind}
use Rattle.tdf_lang_tree.specs.declared.blocks.PortKind.TheVariants.{In, Out, DeIn, DeOut}
use Rattle.tdf_bind_connections.specs.declared.drivers.SignalRow.{SignalRow}
use Rattle.tdf_bind_connections.specs.declared.edges.EdgeRow.{EdgeRow}
use Rattle.tdf_bind_connections.specs.declared.modules.PortRow.{PortRow}

-- the delay of a port is within its limit
abbrev pub HasShortDelay : PortRow → Type 0
HasShortDelay port = port.delay ≤ greatest_delay

-- a `de_in` port is a sampler, and a `de_out` port a sink
abbrev pub is_event_port : PortKind → Bool
is_event_port In = false
is_event_port Out = false
is_event_port DeIn = true
is_event_port DeOut = true

-- the actor of the sampler or sink at a port: after all modules, and those of the ports before it
abbrev pub actor_at : ℕ → List PortRow → ℕ → ℕ
actor_at modules ports number =
    modules + length (filter (λ port. is_event_port port.kind) (take number ports))

abbrev pub driver_row : Option SignalRow → Option ℕ
driver_row None = None
driver_row (Some signal) = signal.driver

-- the port of a module that drives a signal
abbrev pub driver_port : List SignalRow → ℕ → Option ℕ
driver_port signals signal = driver_row (slice_get signals signal)

-- the edge of an `in` port, from the module of the `out` port that drives its signal
abbrev pub edge_from : ℕ → PortRow → ℕ → Option PortRow → Option EdgeRow
edge_from number port out None = None
edge_from number port out (Some driver) = Some (record {
  port = number;
  driver = Some out;
  writer = driver.«module»;
  reader = port.«module»;
  initial = port.delay + driver.delay;
})

abbrev pub in_edge : List PortRow → ℕ → PortRow → ℕ → Option EdgeRow
in_edge ports number port out = edge_from number port out (slice_get ports out)

abbrev pub driven_edge : List PortRow → ℕ → PortRow → Option ℕ → Option EdgeRow
driven_edge ports number port None = None
driven_edge ports number port (Some out) = in_edge ports number port out

-- the edge of a `de_in` port, from its sampler
abbrev pub sampler_edge : ℕ → ℕ → PortRow → EdgeRow
sampler_edge number actor port = record {
  port = number;
  driver = None;
  writer = actor;
  reader = port.«module»;
  initial = port.delay;
}

-- the edge of a `de_out` port, to its sink
abbrev pub sink_edge : ℕ → ℕ → PortRow → EdgeRow
sink_edge number actor port = record {
  port = number;
  driver = None;
  writer = port.«module»;
  reader = actor;
  initial = port.delay;
}

abbrev pub edge_of_kind : PortKind → List SignalRow → List PortRow → ℕ → ℕ → PortRow
    → Option EdgeRow
edge_of_kind In signals ports number actor port =
    driven_edge ports number port (driver_port signals port.signal)
edge_of_kind Out signals ports number actor port = None
edge_of_kind DeIn signals ports number actor port = Some (sampler_edge number actor port)
edge_of_kind DeOut signals ports number actor port = Some (sink_edge number actor port)

-- the edge that a port gives; `actor` is its sampler or sink
abbrev pub edge_by : List SignalRow → List PortRow → ℕ → ℕ → PortRow → Option EdgeRow
edge_by signals ports number actor port = edge_of_kind port.kind signals ports number actor port

-- the edges that the ports give, in the order of the ports
abbrev pub edges_of : ℕ → List SignalRow → List PortRow → List EdgeRow
edges_of modules signals ports =
    filter_map (λ port. edge_by signals ports port.0 (actor_at modules ports port.0) port.1)
    (enumerate_from 0 ports)
