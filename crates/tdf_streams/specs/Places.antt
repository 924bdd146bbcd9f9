-- Where things are in the tables of a flat model: the block of a module, the place of a port in its
-- block, the actors at an edge's ends, and the port whose samples it carries.
-- Source: own.
use Rattle.std.specs.Prelude.{◌&&◌, ℕ, Bool, false, List, [], ◌∷◌, length, take, Option, Some, None, filter, nat_eq, if◌then◌else◌, slice_get, slice_index}
use Rattle.tdf_bind_tables.specs.FlatTables.{FlatTablesOf}
use Rattle.tdf_dynamic_plans.specs.Attributes.{clusters_of}
use Rattle.tdf_fixed.specs.declared.raw.Raw.{Raw}
use Rattle.tdf_graph.specs.declared.actors.Actor.{Actor}
use Rattle.tdf_bind_tables.specs.declared.actors.ActorRow.{ActorRow}
use Rattle.tdf_bind_connections.specs.declared.edges.EdgeRow.{EdgeRow}
use Rattle.tdf_bind_connections.specs.declared.modules.ModuleRow.{ModuleRow}
use Rattle.tdf_bind_connections.specs.declared.modules.PortRow.{PortRow}

-- the number of a module's block
abbrev pub block_of_row : Option ModuleRow → ℕ
block_of_row None = 0
block_of_row (Some row) = row.block

abbrev pub block_at : List ModuleRow → ℕ → ℕ
block_at modules m = block_of_row (slice_get modules m)

-- whether its block has a body that changes attributes
abbrev pub changes_row : Option ModuleRow → Bool
changes_row None = false
changes_row (Some row) = row.changes

abbrev pub has_changes : List ModuleRow → ℕ → Bool
has_changes modules m = changes_row (slice_get modules m)

abbrev pub kind_of_row : Option ActorRow → Option Actor
kind_of_row None = None
kind_of_row (Some row) = Some row.kind

abbrev pub actor_kind : FlatTablesOf → ℕ → Option Actor
actor_kind tables m = kind_of_row (slice_get tables.actors m)

-- the module of a port, and the place of the port in its block: how many ports of that module come
-- before it
abbrev pub module_of_row : Option PortRow → ℕ
module_of_row None = 0
module_of_row (Some port) = port.«module»

abbrev pub module_of_port : List PortRow → ℕ → ℕ
module_of_port ports number = module_of_row (slice_get ports number)

abbrev pub place_of_port : List PortRow → ℕ → ℕ
place_of_port ports number = length (filter
    (λ (port : PortRow). nat_eq port.«module» (module_of_port ports number)) (take number ports))

-- the actors at the ends of an edge
abbrev pub writer_of_row : Option EdgeRow → ℕ
writer_of_row None = 0
writer_of_row (Some edge) = edge.writer

abbrev pub reader_of_row : Option EdgeRow → ℕ
reader_of_row None = 0
reader_of_row (Some edge) = edge.reader

abbrev pub writer_at : List EdgeRow → ℕ → ℕ
writer_at edges e = writer_of_row (slice_get edges e)

abbrev pub reader_at : List EdgeRow → ℕ → ℕ
reader_at edges e = reader_of_row (slice_get edges e)

-- the port whose samples an edge carries: the port that drives it, else the port that gives it
abbrev pub driver_or : ℕ → Option ℕ → ℕ
driver_or port None = port
driver_or port (Some driver) = driver

abbrev pub source_of_row : Option EdgeRow → ℕ
source_of_row None = 0
source_of_row (Some edge) = driver_or edge.port edge.driver

abbrev pub source_at : List EdgeRow → ℕ → ℕ
source_at edges e = source_of_row (slice_get edges e)

-- an edge of the cluster: its writer is in it
abbrev pub is_own : FlatTablesOf → (cluster : ℕ) → ℕ → Bool
is_own tables cluster e =
    nat_eq (slice_index (clusters_of tables) (writer_at tables.edges e)) cluster

-- the samples that module m reads through the port at a place of its block: those of the edge that
-- this port gives; the lists are by edge
abbrev pub read_through : List PortRow → ℕ → List EdgeRow → List (List Raw) → (place : ℕ)
    → List Raw
read_through ports m [] lists place = []
read_through ports m (edge ∷ edges) [] place = []
read_through ports m (edge ∷ edges) (xs ∷ lists) place =
    if nat_eq edge.reader m && nat_eq (place_of_port ports edge.port) place then xs
    else read_through ports m edges lists place
