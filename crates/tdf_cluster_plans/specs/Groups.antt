-- The things of a model by cluster.
-- Source: own.
use Rattle.std.specs.Prelude.{ℕ, ◌≡◌, ◌≢◌, ◌<◌, List, Some, length, map, slice_get, slice_index}
use Rattle.tdf_bind_connections.specs.declared.edges.EdgeRow.{EdgeRow}
use Rattle.tdf_bind_connections.specs.declared.modules.PortRow.{PortRow}
use Rattle.tdf_bind_tables.specs.FlatTables.{FlatTablesOf}
use Rattle.tdf_cluster_net.specs.Grouped.{AreGroups}
use Rattle.tdf_dynamic_plans.specs.Attributes.{clusters_of}
use Rattle.tdf_graph.specs.Clusters.{greatest}

-- for each cluster the numbers of its actors, edges and ports, and for each actor those of its
-- ports
pub record TableGroupsOf : Type 0 where
  pub actors : List (List ℕ)
  pub edges : List (List ℕ)
  pub ports : List (List ℕ)
  pub actor_ports : List (List ℕ)

-- the cluster of an edge is that of its writer, that of a port the one of its module
abbrev pub edge_cluster : List ℕ → EdgeRow → ℕ
edge_cluster clusters edge = slice_index clusters edge.writer

abbrev pub port_cluster : List ℕ → PortRow → ℕ
port_cluster clusters port = slice_index clusters port.«module»

pub record AreTableGroups (tables : FlatTablesOf) (groups : TableGroupsOf) : Type 0 where
  pub count : ℕ
  pub all : greatest (clusters_of tables) < count
  pub actors : AreGroups count (clusters_of tables) groups.actors
  pub edges : AreGroups count (map (edge_cluster (clusters_of tables)) tables.edges) groups.edges
  pub ports : AreGroups count (map (port_cluster (clusters_of tables)) tables.ports) groups.ports
  pub actor_ports : AreGroups (length tables.actors) (map (λ port. port.«module») tables.ports)
      groups.actor_ports

-- the ports of an edge are of modules in its cluster
pub record HasPortsInside (tables : FlatTablesOf) (edge : EdgeRow) : Type 0 where
  pub own : (p : PortRow) → slice_get tables.ports edge.port ≡ Some p
      → port_cluster (clusters_of tables) p ≡ edge_cluster (clusters_of tables) edge
  pub driver : (n : ℕ) (p : PortRow) → edge.driver ≡ Some n → slice_get tables.ports n ≡ Some p
      → port_cluster (clusters_of tables) p ≡ edge_cluster (clusters_of tables) edge

-- the edges of other clusters have the rate 1
pub record AreOnesElsewhere (tables : FlatTablesOf) (cluster : ℕ) (rates : List ℕ) : Type 0 where
  pub long : length rates ≡ length tables.edges
  pub ones : (e : ℕ) (edge : EdgeRow) → slice_get tables.edges e ≡ Some edge
      → edge_cluster (clusters_of tables) edge ≢ cluster → slice_index rates e ≡ 1
