-- The net of one cluster, with numbers of its own.
-- Source: own.
use Rattle.std.specs.Prelude.{ℕ, ◌≡◌, ◌<◌, ◌^◌, List, length, Option, Some, None, slice_get, slice_index}
use Rattle.tdf_cluster_net.specs.Numbers.{AreNumbers, IsAmong}
use Rattle.tdf_graph.specs.declared.actors.Actor.{Actor}
use Rattle.tdf_graph.specs.declared.actors.Edge.{Edge}
use Rattle.tdf_graph.specs.declared.actors.Port.{Port}
use Rattle.tdf_schedule.specs.declared.entry.Entry.{Entry}
use Rattle.tdf_timestep.specs.declared.assign.Assign.{Assign}
use Rattle.tdf_timestep.specs.declared.assign.Spot.{Spot}

-- actors, edges and ports of a cluster by numbers of its own, and the numbers that they have in the
-- whole net
pub record OwnOf : Type 0 where
  pub actors : List Actor
  pub edges : List Edge
  pub ports : List Port
  pub actor_numbers : List ℕ
  pub edge_numbers : List ℕ
  pub port_numbers : List ℕ

-- an edge, a port, an entry, a spot and an assignment with the numbers of the whole net
abbrev pub whole_edge : List ℕ → Edge → Edge
whole_edge numbers e = record {
  writer = slice_index numbers e.writer;
  reader = slice_index numbers e.reader;
  write_rate = e.write_rate;
  read_rate = e.read_rate;
  initial = e.initial;
}

abbrev pub whole_port : List ℕ → Port → Port
whole_port numbers p = record { actor = slice_index numbers p.actor; rate = p.rate }

abbrev pub whole_entry : List ℕ → Entry → Entry
whole_entry numbers x = record x { actor = slice_index numbers x.actor }

abbrev pub with_number : List ℕ → Option ℕ → Option ℕ
with_number numbers None = None
with_number numbers (Some n) = Some (slice_index numbers n)

abbrev pub whole_spot : OwnOf → Spot → Spot
whole_spot own s = record {
  actor = slice_index own.actor_numbers s.actor;
  port = with_number own.port_numbers s.port;
}

abbrev pub whole_assign : OwnOf → Assign → Assign
whole_assign own a = record {
  actor = slice_index own.actor_numbers a.actor;
  port = with_number own.port_numbers a.port;
  step = a.step;
}

-- a spot of the own net
abbrev pub IsPortWithin : ℕ → Option ℕ → Type 0
IsPortWithin count None = Unit {0}
IsPortWithin count (Some p) = p < count

pub record IsOwnSpot (own : OwnOf) (s : Spot) : Type 0 where
  pub actor : s.actor < length own.actor_numbers
  pub port : IsPortWithin (length own.port_numbers) s.port

-- there are fewer actors and ports than numbers of 32 bits
pub record HasFewNumbers (own : OwnOf) : Type 0 where
  pub actors : length own.actor_numbers < 2 ^ 32
  pub ports : length own.port_numbers < 2 ^ 32

-- an assignment to an actor of the cluster or to one of its ports
pub record IsAssignThere (own : OwnOf) (a : Assign) : Type 0 where
  pub actor : IsAmong own.actor_numbers a.actor
  pub port : (n : ℕ) → a.port ≡ Some n → IsAmong own.port_numbers n

-- actors, edges and ports of a cluster of a whole net
abbrev pub IsActorInCluster : (clusters : List ℕ) (cluster : ℕ) → ℕ → Type 0
IsActorInCluster clusters cluster m = slice_index clusters m ≡ cluster

abbrev pub IsEdgeInCluster : List Edge → (clusters : List ℕ) (cluster : ℕ) → ℕ → Type 0
IsEdgeInCluster edges clusters cluster k =
    (e : Edge) × (slice_get edges k ≡ Some e) × (slice_index clusters e.writer ≡ cluster)

abbrev pub IsPortInCluster : List Port → (clusters : List ℕ) (cluster : ℕ) → ℕ → Type 0
IsPortInCluster ports clusters cluster n =
    (p : Port) × (slice_get ports n ≡ Some p) × (slice_index clusters p.actor ≡ cluster)

-- the net of a cluster: all that is the cluster's own, in the order of the whole net
pub record IsOwnNet (actors : List Actor) (edges : List Edge) (ports : List Port)
    (clusters : List ℕ) (cluster : ℕ) (own : OwnOf) : Type 0 where
  pub actor_numbers : AreNumbers (length actors) (IsActorInCluster clusters cluster)
      own.actor_numbers
  pub edge_numbers : AreNumbers (length edges) (IsEdgeInCluster edges clusters cluster)
      own.edge_numbers
  pub port_numbers : AreNumbers (length ports) (IsPortInCluster ports clusters cluster)
      own.port_numbers
  pub actors_long : length own.actors ≡ length own.actor_numbers
  pub edges_long : length own.edges ≡ length own.edge_numbers
  pub ports_long : length own.ports ≡ length own.port_numbers
  pub actors_are : (i : ℕ) → i < length own.actor_numbers
      → slice_get own.actors i ≡ slice_get actors (slice_index own.actor_numbers i)
  pub edges_are : (k : ℕ) (e : Edge) → slice_get own.edges k ≡ Some e
      → slice_get edges (slice_index own.edge_numbers k) ≡ Some (whole_edge own.actor_numbers e)
  pub ports_are : (n : ℕ) (p : Port) → slice_get own.ports n ≡ Some p
      → slice_get ports (slice_index own.port_numbers n) ≡ Some (whole_port own.actor_numbers p)
  pub writers : (k : ℕ) (e : Edge) → slice_get own.edges k ≡ Some e
      → e.writer < length own.actor_numbers
  pub readers : (k : ℕ) (e : Edge) → slice_get own.edges k ≡ Some e
      → e.reader < length own.actor_numbers
  pub port_actors : (n : ℕ) (p : Port) → slice_get own.ports n ≡ Some p
      → p.actor < length own.actor_numbers
