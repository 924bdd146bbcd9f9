-- What each edge of a flat model is: from an `out` port to an `in` port of its signal, from a
-- sampler, or to a sink.
-- Source: own.
use Rattle.std.specs.Prelude.{◌≡◌, ◌+◌, ◌<◌, ℕ, length, Some, None, slice_get}
use Rattle.tdf_bind_tables.specs.FlatTables.{FlatTablesOf}
use Rattle.tdf_bind_tables.specs.Ranges.{AreInRange}
use Rattle.tdf_bind_tables.specs.declared.actors.ActorRow.{ActorRow}
use Rattle.tdf_exec_firing.specs.Wires.{AreWired, WiresOf}
use Rattle.tdf_expr.specs.Made.{port_spans_of}
use Rattle.tdf_bind_invariants.specs.Below.{Flat, IsFlatOf}
use Rattle.tdf_bind_invariants.specs.Formats.{IsSoundModel}
use Rattle.tdf_graph.specs.declared.actors.Actor.{Actor}
use Rattle.tdf_graph.specs.declared.actors.Actor.TheVariants as actor
use Rattle.tdf_exec_layout.specs.Wires.{SinksHaveOne}
use Rattle.tdf_exec_layout.specs.Wiring.{AreWiresOf, Reads, Writes}
use Rattle.tdf_streams.specs.Places.{actor_kind, block_at}
use Rattle.tdf_lang_tree.specs.Pure.{PureTree}
use Rattle.tdf_lang_tree.specs.declared.blocks.PortKind.TheVariants.{In, Out, DeIn, DeOut}
use Rattle.tdf_bind_connections.specs.declared.edges.EdgeRow.{EdgeRow}
use Rattle.tdf_bind_connections.specs.declared.modules.PortRow.{PortRow}

-- an edge to an `in` port, from the `out` port that writes the signal which the `in` port reads; it
-- holds at first as many samples as both delays say
pub record IsBetween (tables : FlatTablesOf) (edge : EdgeRow) (port : PortRow) (out : ℕ)
    (driver : PortRow) : Type 0 where
  pub port_at : slice_get tables.ports edge.port ≡ Some port
  pub port_kind : port.kind ≡ In
  pub driven : edge.driver ≡ Some out
  pub driver_at : slice_get tables.ports out ≡ Some driver
  pub driver_kind : driver.kind ≡ Out
  pub signal : driver.signal ≡ port.signal
  pub writer : edge.writer ≡ driver.«module»
  pub reader : edge.reader ≡ port.«module»
  pub initial : edge.initial ≡ port.delay + driver.delay

-- the sampler or sink at a port
pub record IsActorAt (tables : FlatTablesOf) (m : ℕ) (kind : Actor) (number : ℕ) (port : PortRow)
    : Type 0 where
  pub row : ActorRow
  pub row_at : slice_get tables.actors m ≡ Some row
  pub kind_is : row.kind ≡ kind
  pub port_is : row.port ≡ number
  pub module_is : row.«module» ≡ port.«module»

-- an edge from the sampler of a `de_in` port
pub record IsFromSampler (tables : FlatTablesOf) (edge : EdgeRow) (port : PortRow) : Type 0 where
  pub port_at : slice_get tables.ports edge.port ≡ Some port
  pub port_kind : port.kind ≡ DeIn
  pub not_driven : edge.driver ≡ None
  pub writer : IsActorAt tables edge.writer actor.Sampler edge.port port
  pub reader : edge.reader ≡ port.«module»
  pub initial : edge.initial ≡ port.delay

-- an edge to the sink of a `de_out` port
pub record IsToSink (tables : FlatTablesOf) (edge : EdgeRow) (port : PortRow) : Type 0 where
  pub port_at : slice_get tables.ports edge.port ≡ Some port
  pub port_kind : port.kind ≡ DeOut
  pub not_driven : edge.driver ≡ None
  pub writer : edge.writer ≡ port.«module»
  pub reader : IsActorAt tables edge.reader actor.Sink edge.port port
  pub initial : edge.initial ≡ port.delay

-- each edge is one of these
pub data IsEdgeRow (tables : FlatTablesOf) (edge : EdgeRow) : Type 0 where
  Between : (port : PortRow) (out : ℕ) (driver : PortRow) → IsBetween tables edge port out driver
      → IsEdgeRow tables edge
  FromSampler : (port : PortRow) → IsFromSampler tables edge port → IsEdgeRow tables edge
  ToSink : (port : PortRow) → IsToSink tables edge port → IsEdgeRow tables edge

abbrev pub EdgesAreRows : Type 0
EdgesAreRows = (model : PureTree) (flat : Flat) (e : ℕ) (edge : EdgeRow) → IsFlatOf model flat
    → slice_get flat.tables.edges e ≡ Some edge → IsEdgeRow flat.tables edge

-- a port gives one edge at most
abbrev pub PortsGiveOnce : Type 0
PortsGiveOnce = (model : PureTree) (flat : Flat) (d e : ℕ) (x y : EdgeRow) → IsFlatOf model flat
    → slice_get flat.tables.edges d ≡ Some x → slice_get flat.tables.edges e ≡ Some y
    → x.port ≡ y.port → d ≡ e

-- each sink has one edge
abbrev pub SinksAreRead : Type 0
SinksAreRead = (model : PureTree) (flat : Flat) → AreInRange flat.tables → IsFlatOf model flat
    → SinksHaveOne flat.tables

-- a sampler reads no edge, and a sink writes none
abbrev pub SamplersReadNone : Type 0
SamplersReadNone = (model : PureTree) (flat : Flat) (m e : ℕ) → AreInRange flat.tables
    → IsFlatOf model flat → actor_kind flat.tables m ≡ Some actor.Sampler
    → Reads flat.tables m e → ⊥

abbrev pub SinksWriteNone : Type 0
SinksWriteNone = (model : PureTree) (flat : Flat) (m e : ℕ) → AreInRange flat.tables
    → IsFlatOf model flat → actor_kind flat.tables m ≡ Some actor.Sink
    → Writes flat.tables m e → ⊥

-- the wires of a module are those of its block
abbrev pub WiresAreWired : Type 0
WiresAreWired = (model : PureTree) (flat : Flat) (m : ℕ) (wires : WiresOf) → IsSoundModel model
    → IsFlatOf model flat → m < length flat.tables.modules → AreWiresOf flat.tables m wires
    → AreWired wires (port_spans_of flat.checked (block_at flat.tables.modules m))
    (length flat.tables.edges)
