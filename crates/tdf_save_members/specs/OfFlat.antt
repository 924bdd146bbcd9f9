-- The members of a flat model: the paths of its parts, and how many numbers each of them has.
-- Source: own.
use Rattle.std.specs.List.{range_with_len}
use Rattle.std.specs.Prelude.{ℕ, List, [], ◌++◌, ◌∷◌, Option, None, Some, length, map, slice_get}
use Rattle.tdf_bind.specs.declared.model.Flat.{Flat}
use Rattle.tdf_bind_connections.specs.ProcessBlocks.{BlockRowOf}
use Rattle.tdf_bind_connections.specs.declared.blocks.EventRow.{EventRow}
use Rattle.tdf_bind_connections.specs.declared.drivers.SignalRow.{SignalRow}
use Rattle.tdf_bind_connections.specs.declared.traces.TraceRow.{TraceRow}
use Rattle.tdf_bind_tables.specs.Actors.{cluster_of}
use Rattle.tdf_bind_tables.specs.FlatTables.{FlatTablesOf}
use Rattle.tdf_bind_tables.specs.Ranges.{edge_path, module_path}
use Rattle.tdf_dynamic_first.specs.Text.{first_table}
use Rattle.tdf_dynamic_plans.specs.Attributes.{AttrsOf}
use Rattle.tdf_exec.specs.Saved.{own_edges}
use Rattle.tdf_expr.specs.Made.{cell_formats}
use Rattle.tdf_graph.specs.Clusters.{greatest}
use Rattle.tdf_save.specs.Members.{BlockMembersOf, ClusterMembersOf, MembersOf, ModuleMembersOf}
use Rattle.tdf_streams.specs.Places.{block_at}

-- a module of a table: a rate for each of its rate variables, a timestep for itself and one for
-- each of its ports, and a number for each of its variables and elements
abbrev pub module_members : Flat → AttrsOf → ModuleMembersOf
module_members flat attrs = record {
  path = module_path (slice_get flat.tables.modules attrs.number);
  rates = length attrs.rates;
  steps = length attrs.steps;
  cells = length (cell_formats flat.checked (block_at flat.tables.modules attrs.number));
}

-- a cluster: its modules and its edges
abbrev pub cluster_members : Flat → (cluster : ℕ) → ClusterMembersOf
cluster_members flat cluster = record {
  number = cluster;
  modules = map (module_members flat) (first_table flat cluster);
  edges = map (edge_path flat.tables) (own_edges flat.tables cluster);
}

-- the numbers of the clusters: from 1 on
abbrev pub clusters_in : Flat → List ℕ
clusters_in flat = range_with_len 1 (greatest (map cluster_of flat.tables.actors))

-- an instance of a block of processes: a number for each of its variables and elements
abbrev pub block_members : Flat → BlockRowOf → BlockMembersOf
block_members flat row = record {
  path = row.path;
  cells = length (cell_formats flat.checked row.block);
}

-- the path of an instance
abbrev pub instance_path : Option BlockRowOf → List ℕ
instance_path None = []
instance_path (Some row) = row.path

-- an event: the path of its instance, a space, and its own name
abbrev pub named_event : FlatTablesOf → EventRow → List ℕ
named_event tables row =
    instance_path (slice_get tables.blocks row.owner) ++ 32 ∷ row.name

-- all members, each kind in the order of its numbers
abbrev pub members_of : Flat → MembersOf
members_of flat = record {
  clusters = map (cluster_members flat) (clusters_in flat);
  values = map (λ (row : SignalRow). row.path) flat.tables.de_signals;
  blocks = map (block_members flat) flat.tables.blocks;
  events = map (named_event flat.tables) flat.tables.events;
  columns = map (λ (row : TraceRow). row.label) flat.tables.traces;
}
