-- How actors are listed.
-- Source: own.
use Rattle.std.specs.List.{enumerate_from}
use Rattle.std.specs.Prelude.{◌≡◌, ℕ, List, map, take, filter_map}
use Rattle.tdf_bind_tables.specs.Actors.{port_actor, actor_place, cluster_of}
use Rattle.tdf_bind_tables.specs.declared.actors.ActorPlace.{ActorPlace}
use Rattle.tdf_bind_tables.specs.declared.actors.ActorRow.{ActorRow}
use Rattle.tdf_bind_connections.specs.declared.modules.PortRow.{PortRow}

abbrev pub event_actors : List PortRow → List ActorPlace
event_actors ports = filter_map (λ port. port_actor port.0 port.1) (enumerate_from 0 ports)

-- the loop over actors
pub record RowsUpTo (places : List ActorPlace) (numbers : List ℕ) (i : ℕ)
    (rows : List ActorRow) : Type 0 where
  pub places_are : map actor_place rows ≡ take i places
  pub clusters_are : map cluster_of rows ≡ take i numbers
