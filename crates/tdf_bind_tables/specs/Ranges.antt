-- The numbers in the tables of a flat model are those of rows.
-- Source: own.
use Rattle.std.specs.Prelude.{◌≡◌, ◌<◌, ℕ, List, [], length, Option, Some, None, All, IfSome, slice_get}
use Rattle.tdf_bind_tables.specs.FlatTables.{FlatTablesOf, AreShort, IsFlat}
use Rattle.tdf_bind_tables.specs.declared.actors.ActorRow.{ActorRow}
use Rattle.tdf_graph.specs.declared.actors.Actor.{Actor}
use Rattle.tdf_graph.specs.declared.actors.Actor.TheVariants as actor
use Rattle.tdf_bind_hierarchy.specs.Blocks.{BlockOf}
use Rattle.tdf_bind_connections.specs.declared.edges.EdgeRow.{EdgeRow}
use Rattle.tdf_bind_connections.specs.declared.modules.ModuleRow.{ModuleRow}
use Rattle.tdf_bind_connections.specs.declared.modules.PortRow.{PortRow}
use Rattle.tdf_bind_connections.specs.declared.roles.Role.{Role}
use Rattle.tdf_bind_connections.specs.declared.traces.TraceLine.{TraceLine}

-- a module has port 0, a sampler or sink a port in range
abbrev pub IsActorPort : ℕ → Actor → ℕ → Type 0
IsActorPort ports actor.Module port = port ≡ 0
IsActorPort ports actor.Sampler port = port < ports
IsActorPort ports actor.Sink port = port < ports

pub record AreInRange (flat : FlatTablesOf) : Type 0 where
  pub port_modules : All (λ port. port.«module» < length flat.modules) flat.ports
  pub actor_modules : All (λ row. row.«module» < length flat.modules) flat.actors
  pub actor_ports : All (λ row. IsActorPort (length flat.ports) row.kind row.port) flat.actors
  pub edge_ports : All (λ edge. edge.port < length flat.ports) flat.edges
  pub edge_drivers : All (λ edge. IfSome edge.driver (λ port. port < length flat.ports)) flat.edges
  pub edge_writers : All (λ edge. edge.writer < length flat.actors) flat.edges
  pub edge_readers : All (λ edge. edge.reader < length flat.actors) flat.edges

abbrev pub FlatIsInRange : Type 0
FlatIsInRange = (blocks : List BlockOf) (top : ℕ) (roles : List Role) (lines : List TraceLine)
    (flat : FlatTablesOf) → AreShort roles → IsFlat blocks top roles lines flat → AreInRange flat

abbrev pub module_path : Option ModuleRow → List ℕ
module_path None = []
module_path (Some row) = row.path

abbrev pub port_path : Option PortRow → List ℕ
port_path None = []
port_path (Some row) = row.path

abbrev pub path_of_kind : Actor → List ModuleRow → List PortRow → ActorRow → List ℕ
path_of_kind actor.Module modules ports row = module_path (slice_get modules row.«module»)
path_of_kind actor.Sampler modules ports row = port_path (slice_get ports row.port)
path_of_kind actor.Sink modules ports row = port_path (slice_get ports row.port)

-- the path of an actor: that of its module, or that of its port for a sampler or sink
abbrev pub row_path : List ModuleRow → List PortRow → ActorRow → List ℕ
row_path modules ports row = path_of_kind row.kind modules ports row

abbrev pub path_of_row : List ModuleRow → List PortRow → Option ActorRow → List ℕ
path_of_row modules ports None = []
path_of_row modules ports (Some row) = row_path modules ports row

abbrev pub actor_path : FlatTablesOf → ℕ → List ℕ
actor_path flat number = path_of_row flat.modules flat.ports (slice_get flat.actors number)

-- the path of an edge: that of the port that gives it
abbrev pub path_of_edge : List PortRow → Option EdgeRow → List ℕ
path_of_edge ports None = []
path_of_edge ports (Some edge) = port_path (slice_get ports edge.port)

abbrev pub edge_path : FlatTablesOf → ℕ → List ℕ
edge_path flat number = path_of_edge flat.ports (slice_get flat.edges number)
