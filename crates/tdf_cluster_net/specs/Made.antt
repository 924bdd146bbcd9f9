-- The net of a cluster, as it is made of its own actors, edges and ports.
-- Source: own.
use Rattle.std.specs.Prelude.{ℕ, ◌≡◌, ◌<◌, ◌≤◌, ◌*◌, List, Some, length, slice_get, slice_index}
use Rattle.tdf_base.specs.Limits.{greatest_delay}
use Rattle.tdf_cluster_net.specs.Numbers.{IsAmong}
use Rattle.tdf_cluster_net.specs.Own.{OwnOf, whole_edge, whole_port}
use Rattle.tdf_graph.specs.Ranges.{IsRate}
use Rattle.tdf_graph.specs.declared.actors.Actor.{Actor}
use Rattle.tdf_graph.specs.declared.actors.Edge.{Edge}
use Rattle.tdf_graph.specs.declared.actors.Port.{Port}

-- the things that have the first n of some numbers in the whole net
pub record ArePickedOf {X : Type 0} (all : List X) (numbers : List ℕ) (n : ℕ) (own : List X)
    : Type 0 where
  pub long : length own ≡ n
  pub each : (i : ℕ) → i < n → slice_get own i ≡ slice_get all (slice_index numbers i)

-- an edge and a port of the whole net whose actors are among some numbers
pub record IsEdgeAmong (numbers : List ℕ) (edge : Edge) : Type 0 where
  pub writer : IsAmong numbers edge.writer
  pub reader : IsAmong numbers edge.reader
  pub writes : IsRate edge.write_rate
  pub reads : IsRate edge.read_rate
  pub starts : edge.initial ≤ 2 * greatest_delay

pub record IsPortAmong (numbers : List ℕ) (port : Port) : Type 0 where
  pub actor : IsAmong numbers port.actor
  pub rate : IsRate port.rate

-- the first n edges and ports, with the places that their actors have among some numbers
pub record AreRenamedEdges (numbers : List ℕ) (edges : List Edge) (n : ℕ) (own : List Edge)
    : Type 0 where
  pub long : length own ≡ n
  pub each : (k : ℕ) (e : Edge) → slice_get own k ≡ Some e
      → slice_get edges k ≡ Some (whole_edge numbers e)
  pub writers : (k : ℕ) (e : Edge) → slice_get own k ≡ Some e → e.writer < length numbers
  pub readers : (k : ℕ) (e : Edge) → slice_get own k ≡ Some e → e.reader < length numbers

pub record AreRenamedPorts (numbers : List ℕ) (ports : List Port) (n : ℕ) (own : List Port)
    : Type 0 where
  pub long : length own ≡ n
  pub each : (k : ℕ) (p : Port) → slice_get own k ≡ Some p
      → slice_get ports k ≡ Some (whole_port numbers p)
  pub actors : (k : ℕ) (p : Port) → slice_get own k ≡ Some p → p.actor < length numbers

-- what is a cluster's own, with the numbers of the whole net
pub record PartsOf : Type 0 where
  pub actor_numbers : List ℕ
  pub edge_numbers : List ℕ
  pub port_numbers : List ℕ
  pub actors : List Actor
  pub edges : List Edge
  pub ports : List Port

-- the net that is made of it
pub record IsMadeOf (parts : PartsOf) (own : OwnOf) : Type 0 where
  pub actor_numbers : own.actor_numbers ≡ parts.actor_numbers
  pub edge_numbers : own.edge_numbers ≡ parts.edge_numbers
  pub port_numbers : own.port_numbers ≡ parts.port_numbers
  pub actors : own.actors ≡ parts.actors
  pub edges : AreRenamedEdges parts.actor_numbers parts.edges (length parts.edges) own.edges
  pub ports : AreRenamedPorts parts.actor_numbers parts.ports (length parts.ports) own.ports
