-- The net of a cluster under a table of attributes, with numbers of its own.
-- Source: own.
use Rattle.std.specs.Prelude.{ℕ, List}
use Rattle.tdf_bind_tables.specs.FlatTables.{FlatTablesOf}
use Rattle.tdf_cluster_net.specs.Laws.{IsClusterNet}
use Rattle.tdf_cluster_net.specs.Own.{OwnOf}
use Rattle.tdf_dynamic_plans.specs.Attributes.{AttrsOf, clusters_of}
use Rattle.tdf_dynamic_plans.specs.Rates.{net_of}

-- the cluster's own actors, edges and ports of the net of a model under a table
abbrev pub IsNetOfCluster : FlatTablesOf → (cluster : ℕ) → List AttrsOf → OwnOf → Type 0
IsNetOfCluster tables cluster table own =
    IsClusterNet (net_of tables table).actors (net_of tables table).edges
    (net_of tables table).ports (clusters_of tables) cluster own
