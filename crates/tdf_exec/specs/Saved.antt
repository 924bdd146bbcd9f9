-- What a cluster in progress holds, as a snapshot says it.
-- Source: own.
use Rattle.std.specs.List.{filter, range_with_len}
use Rattle.std.specs.Prelude.{ℕ, ℤ, List, [], length, map, nat_lt, slice_index, slice_index_or}
use Rattle.tdf_bind_tables.specs.FlatTables.{FlatTablesOf}
use Rattle.tdf_dynamic_plans.specs.Attributes.{AttrsOf}
use Rattle.tdf_exec.specs.Cluster.{ClusterOf}
use Rattle.tdf_exec.specs.Played.{play_of}
use Rattle.tdf_fixed.specs.declared.raw.Raw.{Raw}
use Rattle.tdf_saved.specs.State.{ClusterStateOf, ModuleStateOf}
use Rattle.tdf_streams.specs.Places.{is_own}

-- samples as whole numbers of the least steps of their format
abbrev pub nums_of : List Raw → List ℤ
nums_of samples = map (λ (sample : Raw). sample.num) samples

-- the edges that a plan gives room, by number
abbrev pub edges_with_room : (bounds : List ℕ) → (count : ℕ) → List ℕ
edges_with_room bounds count =
    filter (λ e. nat_lt 0 (slice_index bounds e)) (range_with_len 0 count)

-- the edges of a cluster, by number: those that an actor of it writes
abbrev pub own_edges : FlatTablesOf → (cluster : ℕ) → List ℕ
own_edges tables cluster = filter (is_own tables cluster) (range_with_len 0 (length tables.edges))

-- a module: its attributes, and the values of its variables, where these are given by actor
abbrev pub module_state : (states : List (List ℤ)) → AttrsOf → ModuleStateOf
module_state states attrs = record {
  accept = attrs.accepts;
  rates = attrs.rates;
  steps = attrs.steps;
  cells = slice_index_or states attrs.number [];
}

-- the samples of these edges from the front, where those of all edges are given
abbrev pub edge_states : (lists : List (List Raw)) → (edges : List ℕ) → List (List ℤ)
edge_states lists edges = map (λ e. nums_of (slice_index_or lists e [])) edges

-- a cluster whose period began at a time, by what it holds for its streams: the modules of its
-- table, and its edges by number
abbrev pub cluster_state : ClusterOf → (start : ℕ) → ClusterStateOf
cluster_state c start = record {
  start = start;
  modules = map (module_state (play_of c.place c).states) c.table;
  edges = edge_states (play_of c.place c).lists (edges_with_room c.bounds (length c.rings));
}
