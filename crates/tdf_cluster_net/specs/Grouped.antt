-- The things of a list by cluster.
-- Source: own.
use Rattle.std.specs.Prelude.{ℕ, ◌≡◌, ◌<◌, List, [], length, slice_index, slice_index_or}
use Rattle.tdf_cluster_net.specs.Numbers.{AreNumbers}

-- for each cluster the numbers of the things that are in it
pub record AreGroups (count : ℕ) (clusters : List ℕ) (groups : List (List ℕ)) : Type 0 where
  pub long : length groups ≡ count
  pub each : (c : ℕ) → c < count → AreNumbers (length clusters)
      (λ m. slice_index clusters m ≡ c) (slice_index_or groups c [])
