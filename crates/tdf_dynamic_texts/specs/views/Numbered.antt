-- The actors and the edges of a cluster, by number.
-- Source: own.
use Rattle.std.specs.Prelude.{ℕ, ◌≡◌, List, length, map, slice_index}
use Rattle.tdf_bind_tables.specs.Actors.{cluster_of}
use Rattle.tdf_bind_tables.specs.FlatTables.{FlatTablesOf}
use Rattle.tdf_cluster_net.specs.Numbers.{AreNumbers}
use Rattle.tdf_cluster_plans.specs.Groups.{edge_cluster}

-- these are the numbers of the actors of a cluster
abbrev pub AreActorNumbers : FlatTablesOf → (cluster : ℕ) → List ℕ → Type 0
AreActorNumbers tables cluster numbers = AreNumbers (length tables.actors)
    (λ m. slice_index (map cluster_of tables.actors) m ≡ cluster) numbers

-- and those of the edges whose writer is in it
abbrev pub AreEdgeNumbers : FlatTablesOf → (cluster : ℕ) → List ℕ → Type 0
AreEdgeNumbers tables cluster numbers = AreNumbers (length tables.edges) (λ m. slice_index
    (map (edge_cluster (map cluster_of tables.actors)) tables.edges) m ≡ cluster) numbers
