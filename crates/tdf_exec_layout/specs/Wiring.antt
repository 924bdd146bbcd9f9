-- Which edges the actors of a flat model read and write, and through which ports.
-- Source: own.
use Rattle.std.specs.Prelude.{◌≡◌, ℕ, ◌<◌, List, Option, Some, None, length, slice_get}
use Rattle.tdf_bind_tables.specs.FlatTables.{FlatTablesOf}
use Rattle.tdf_exec_firing.specs.Wires.{WiresOf}
use Rattle.tdf_exec_firing.specs.declared.wires.InWire.{InWire}
use Rattle.tdf_exec_firing.specs.declared.wires.OutWire.{OutWire}
use Rattle.tdf_streams.specs.Places.{place_of_port, reader_at, source_at, writer_at}
use Rattle.tdf_bind_connections.specs.declared.edges.EdgeRow.{EdgeRow}

-- the port that gives an edge
abbrev pub port_of_row : Option EdgeRow → ℕ
port_of_row None = 0
port_of_row (Some edge) = edge.port

abbrev pub port_of_edge : List EdgeRow → ℕ → ℕ
port_of_edge edges e = port_of_row (slice_get edges e)

-- the edges that an actor reads, and those that it writes
pub record Reads (tables : FlatTablesOf) (m e : ℕ) : Type 0 where
  pub inside : e < length tables.edges
  pub reader : reader_at tables.edges e ≡ m

pub record Writes (tables : FlatTablesOf) (m e : ℕ) : Type 0 where
  pub inside : e < length tables.edges
  pub writer : writer_at tables.edges e ≡ m

-- the wires of a module: one for each edge that it reads, at the place of the port that gives the
-- edge, and one for each edge that it writes, at the place of the port whose samples the edge
-- carries
pub record AreWiresOf (tables : FlatTablesOf) (m : ℕ) (wires : WiresOf) : Type 0 where
  pub in_edge : (j : ℕ) (w : InWire) → slice_get wires.ins j ≡ Some w → Reads tables m w.edge
  pub in_port : (j : ℕ) (w : InWire) → slice_get wires.ins j ≡ Some w
      → w.port ≡ place_of_port tables.ports (port_of_edge tables.edges w.edge)
  pub in_all : (e : ℕ) → Reads tables m e
      → (j : ℕ) × (w : InWire) × (slice_get wires.ins j ≡ Some w) × (w.edge ≡ e)
  pub in_once : (i j : ℕ) (v w : InWire) → slice_get wires.ins i ≡ Some v
      → slice_get wires.ins j ≡ Some w → v.edge ≡ w.edge → i ≡ j
  pub out_edge : (j : ℕ) (w : OutWire) → slice_get wires.outs j ≡ Some w → Writes tables m w.edge
  pub out_port : (j : ℕ) (w : OutWire) → slice_get wires.outs j ≡ Some w
      → w.port ≡ place_of_port tables.ports (source_at tables.edges w.edge)
  pub out_all : (e : ℕ) → Writes tables m e
      → (j : ℕ) × (w : OutWire) × (slice_get wires.outs j ≡ Some w) × (w.edge ≡ e)
  pub out_once : (i j : ℕ) (v w : OutWire) → slice_get wires.outs i ≡ Some v
      → slice_get wires.outs j ≡ Some w → v.edge ≡ w.edge → i ≡ j

-- the edges of a sampler, each once
pub record AreEdgesOf (tables : FlatTablesOf) (m : ℕ) (edges : List ℕ) : Type 0 where
  pub each : (j e : ℕ) → slice_get edges j ≡ Some e → Writes tables m e
  pub all : (e : ℕ) → Writes tables m e → (j : ℕ) × (slice_get edges j ≡ Some e)
  pub once : (i j d e : ℕ) → slice_get edges i ≡ Some d → slice_get edges j ≡ Some e → d ≡ e
      → i ≡ j

-- the edge of a sink, its only one
pub record IsEdgeOf (tables : FlatTablesOf) (m edge : ℕ) : Type 0 where
  pub is : Reads tables m edge
  pub only : (e : ℕ) → Reads tables m e → e ≡ edge
