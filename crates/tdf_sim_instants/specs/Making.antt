-- What a model has, so that a run of it can begin: plans for its clusters.
-- Source: own.
use Rattle.std.specs.Prelude.{◌≡◌, ◌+◌, ℕ, List, Some, length, map, slice_get}
use Rattle.tdf_bind_tables.specs.Actors.{cluster_of}
use Rattle.tdf_dynamic_first.specs.First.{IsFirstPlan}
use Rattle.tdf_dynamic_first.specs.declared.first.First.{First}
use Rattle.tdf_bind.specs.declared.model.Flat.{Flat}
use Rattle.tdf_graph.specs.Clusters.{greatest}

-- the first attributes and plans of all clusters; cluster n has the number n + 1
pub record HavePlans (flat : Flat) (firsts : List First) : Type 0 where
  pub all : length firsts ≡ greatest (map cluster_of flat.tables.actors)
  pub each : (n : ℕ) (first : First) → slice_get firsts n ≡ Some first
      → IsFirstPlan flat (n + 1) first
