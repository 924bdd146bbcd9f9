-- How the edges of actors are gathered.
-- Source: own.
use Rattle.std.specs.List.{enumerate_from}
use Rattle.std.specs.Prelude.{◌≡◌, ◌<◌, ◌≤◌, ℕ, List, [], ◌∷◌, ◌++◌, length, map, Option, Some, None, filter_map, if◌then◌else◌, nat_eq, slice_get, slice_index_or, slice_set, take}
use Rattle.tdf_bind_tables.specs.FlatTables.{FlatTablesOf}
use Rattle.tdf_bind_tables.specs.declared.actors.ActorRow.{ActorRow}
use Rattle.tdf_exec_firing.specs.Wires.{WiresOf}
use Rattle.tdf_exec_firing.specs.declared.wires.InWire.{InWire}
use Rattle.tdf_exec_firing.specs.declared.wires.OutWire.{OutWire}
use Rattle.tdf_graph.specs.declared.actors.Actor.{Actor}
use Rattle.tdf_graph.specs.declared.actors.Actor.TheVariants as actor
use Rattle.tdf_exec_layout.specs.declared.wiring.ActorWires.{ActorWires}
use Rattle.tdf_exec_layout.specs.declared.wiring.ActorWires.TheVariants.{Module, Sampler, Sink}
use Rattle.tdf_streams.specs.Places.{driver_or, place_of_port}
use Rattle.tdf_bind_connections.specs.declared.edges.EdgeRow.{EdgeRow}

abbrev pub no_ends : WiresOf
no_ends = record { ins = []; outs = [] }

abbrev pub with_in : InWire → WiresOf → WiresOf
with_in wire ends = record { ins = ends.ins ++ wire ∷ []; outs = ends.outs }

abbrev pub with_out : OutWire → WiresOf → WiresOf
with_out wire ends = record { ins = ends.ins; outs = ends.outs ++ wire ∷ [] }

abbrev pub ends_at : List WiresOf → ℕ → WiresOf
ends_at rows m = slice_index_or rows m no_ends

-- the wires of an edge
abbrev pub wire_in : FlatTablesOf → ℕ → EdgeRow → InWire
wire_in tables e edge = record { edge = e; port = place_of_port tables.ports edge.port }

abbrev pub wire_out : FlatTablesOf → ℕ → EdgeRow → OutWire
wire_out tables e edge =
    record { edge = e; port = place_of_port tables.ports (driver_or edge.port edge.driver) }

abbrev pub in_wire : FlatTablesOf → ℕ → ℕ → EdgeRow → Option InWire
in_wire tables m e edge = if nat_eq edge.reader m then Some (wire_in tables e edge) else None

abbrev pub out_wire : FlatTablesOf → ℕ → ℕ → EdgeRow → Option OutWire
out_wire tables m e edge = if nat_eq edge.writer m then Some (wire_out tables e edge) else None

-- those of an actor among the first n edges
abbrev pub in_wires : FlatTablesOf → ℕ → ℕ → List InWire
in_wires tables m n =
    filter_map (λ edge. in_wire tables m edge.0 edge.1) (enumerate_from 0 (take n tables.edges))

abbrev pub out_wires : FlatTablesOf → ℕ → ℕ → List OutWire
out_wires tables m n =
    filter_map (λ edge. out_wire tables m edge.0 edge.1) (enumerate_from 0 (take n tables.edges))

abbrev pub ends_before : FlatTablesOf → (n m : ℕ) → WiresOf
ends_before tables n m = record { ins = in_wires tables m n; outs = out_wires tables m n }

-- the reader of an edge gets it, and the writer
abbrev pub read_by : FlatTablesOf → ℕ → EdgeRow → List WiresOf → List WiresOf
read_by tables e edge rows =
    slice_set rows edge.reader (with_in (wire_in tables e edge) (ends_at rows edge.reader))

abbrev pub written_by : FlatTablesOf → ℕ → EdgeRow → List WiresOf → List WiresOf
written_by tables e edge rows =
    slice_set rows edge.writer (with_out (wire_out tables e edge) (ends_at rows edge.writer))

-- the first n edges are gathered
pub record EndsUpTo (tables : FlatTablesOf) (n : ℕ) (rows : List WiresOf) : Type 0 where
  pub long : length rows ≡ length tables.actors
  pub each : (m : ℕ) → m < length tables.actors → ends_at rows m ≡ ends_before tables n m

-- what an actor is told of its edges
abbrev pub IsTold : Actor → WiresOf → ActorWires → Type 0
IsTold actor.Module ends (Module wires) = wires ≡ ends
IsTold actor.Sampler ends (Sampler edges) = edges.items ≡ map (λ (w : OutWire). w.edge) ends.outs
IsTold actor.Sink ends (Sink edge) =
    (w : InWire) × (slice_get ends.ins 0 ≡ Some w) × (edge ≡ w.edge)
IsTold kind ends wires = ⊥

-- a sink has an edge that it reads
abbrev pub HasInput : Actor → WiresOf → Type 0
HasInput actor.Sink ends = 0 < length ends.ins
HasInput kind ends = Unit {0}

-- the first n actors are told, and the edges of the others are still there
pub record ToldUpTo (actors : List ActorRow) (n : ℕ) (old new : List WiresOf)
    (wires : List ActorWires) : Type 0 where
  pub same : length new ≡ length old
  pub long : length wires ≡ n
  pub told : (m : ℕ) (row : ActorRow) (w : ActorWires) → slice_get actors m ≡ Some row
      → slice_get wires m ≡ Some w → IsTold row.kind (ends_at old m) w
  pub left : (m : ℕ) → n ≤ m → ends_at new m ≡ ends_at old m
