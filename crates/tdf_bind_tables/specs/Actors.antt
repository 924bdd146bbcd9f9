-- Modules, samplers and sinks, with their clusters.
-- Source: own.
use Rattle.std.specs.List.{enumerate_from, range_with_len}
use Rattle.std.specs.Prelude.{◌≡◌, ℕ, List, ◌++◌, length, map, Option, Some, None, filter_map, All}
use Rattle.tdf_bind_tables.specs.declared.actors.ActorPlace.{ActorPlace}
use Rattle.tdf_bind_tables.specs.declared.actors.ActorRow.{ActorRow}
use Rattle.tdf_graph.specs.Clusters.{AreClusters}
use Rattle.tdf_graph.specs.Ranges.{IsEdge}
use Rattle.tdf_graph.specs.declared.actors.Actor.TheVariants as actor
use Rattle.tdf_graph.specs.declared.actors.Edge.{Edge}
use Rattle.tdf_lang_tree.specs.declared.blocks.PortKind.{PortKind}
use Rattle.tdf_lang_tree.specs.declared.blocks.PortKind.TheVariants.{In, Out, DeIn, DeOut}
use Rattle.tdf_bind_connections.specs.declared.edges.EdgeRow.{EdgeRow}
use Rattle.tdf_bind_connections.specs.declared.modules.PortRow.{PortRow}

abbrev pub module_actor : ℕ → ActorPlace
module_actor number = record { kind = actor.Module; «module» = number; port = 0 }

abbrev pub actor_of_kind : PortKind → ℕ → PortRow → Option ActorPlace
actor_of_kind In number port = None
actor_of_kind Out number port = None
actor_of_kind DeIn number port =
    Some (record { kind = actor.Sampler; «module» = port.«module»; port = number })
actor_of_kind DeOut number port =
    Some (record { kind = actor.Sink; «module» = port.«module»; port = number })

-- the sampler or sink at a port
abbrev pub port_actor : ℕ → PortRow → Option ActorPlace
port_actor number port = actor_of_kind port.kind number port

-- the actors: the modules, then the samplers and sinks in the order of their ports
abbrev pub actor_places : ℕ → List PortRow → List ActorPlace
actor_places modules ports =
    map module_actor (range_with_len 0 modules)
    ++ filter_map (λ port. port_actor port.0 port.1) (enumerate_from 0 ports)

abbrev pub actor_place : ActorRow → ActorPlace
actor_place row = record { kind = row.kind; «module» = row.«module»; port = row.port }

abbrev pub cluster_of : ActorRow → ℕ
cluster_of row = row.cluster

-- an edge without its rates, which make no difference to clusters
abbrev pub net_edge : EdgeRow → Edge
net_edge edge = record {
  writer = edge.writer;
  reader = edge.reader;
  write_rate = 1;
  read_rate = 1;
  initial = edge.initial;
}

-- the rows are the actors, with their clusters
pub record AreActors (modules : ℕ) (ports : List PortRow) (edges : List EdgeRow)
    (rows : List ActorRow) : Type 0 where
  pub places : map actor_place rows ≡ actor_places modules ports
  pub clusters : AreClusters (length rows) (map net_edge edges) (map cluster_of rows)

-- the numbers of the edges are those of actors, and their delays within the limits
abbrev pub AreActorEdges : ℕ → List PortRow → List EdgeRow → Type 0
AreActorEdges modules ports edges =
    All (IsEdge (length (actor_places modules ports))) (map net_edge edges)
