-- What each actor reads and writes.
-- Source: own.
use Rattle.std.specs.Prelude.{◌≡◌, ℕ, List, length, Some, slice_get}
use Rattle.tdf_bind_tables.specs.FlatTables.{FlatTablesOf}
use Rattle.tdf_bind_tables.specs.declared.actors.ActorRow.{ActorRow}
use Rattle.tdf_graph.specs.declared.actors.Actor.{Actor}
use Rattle.tdf_graph.specs.declared.actors.Actor.TheVariants as actor
use Rattle.tdf_exec_layout.specs.Wiring.{AreEdgesOf, AreWiresOf, IsEdgeOf}
use Rattle.tdf_exec_layout.specs.declared.wiring.ActorWires.{ActorWires}
use Rattle.tdf_exec_layout.specs.declared.wiring.ActorWires.TheVariants.{Module, Sampler, Sink}
use Rattle.tdf_streams.specs.Places.{actor_kind}

-- of a module its wires, of a sampler its edges, of a sink its edge
abbrev pub IsWiringOf : FlatTablesOf → ℕ → Actor → ActorWires → Type 0
IsWiringOf tables m actor.Module (Module wires) = AreWiresOf tables m wires
IsWiringOf tables m actor.Sampler (Sampler edges) = AreEdgesOf tables m edges.items
IsWiringOf tables m actor.Sink (Sink edge) = IsEdgeOf tables m edge
IsWiringOf tables m kind wires = ⊥

-- one for each actor of the model
pub record AreAllWires (tables : FlatTablesOf) (wires : List ActorWires) : Type 0 where
  pub long : length wires ≡ length tables.actors
  pub each : (m : ℕ) (row : ActorRow) (w : ActorWires) → slice_get tables.actors m ≡ Some row
      → slice_get wires m ≡ Some w → IsWiringOf tables m row.kind w

-- each sink has an edge, and no other
abbrev pub SinksHaveOne : FlatTablesOf → Type 0
SinksHaveOne tables =
    (m : ℕ) → actor_kind tables m ≡ Some actor.Sink → (e : ℕ) × IsEdgeOf tables m e
