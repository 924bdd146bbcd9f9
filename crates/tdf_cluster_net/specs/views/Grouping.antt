-- The things of a list by cluster, as far as they are gathered.
-- Source: own.
use Rattle.std.specs.Prelude.{ℕ, ◌≡◌, ◌<◌, List, [], length, slice_index, slice_index_or}
use Rattle.tdf_cluster_net.specs.Numbers.{AreNumbers}

pub record AreGroupsUpTo (count : ℕ) (clusters : List ℕ) (n : ℕ) (groups : List (List ℕ))
    : Type 0 where
  pub long : length groups ≡ count
  pub each : (c : ℕ) → c < count → AreNumbers n (λ m. slice_index clusters m ≡ c)
      (slice_index_or groups c [])
