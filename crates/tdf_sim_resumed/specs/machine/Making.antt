-- How the clusters are made one after the other.
-- Source: own.
use Rattle.std.specs.Prelude.{◌≡◌, ◌+◌, ◌<◌, ℕ, List, Some, length, slice_get}
use Rattle.tdf_bind.specs.declared.model.Flat.{Flat}
use Rattle.tdf_sim_refinement.specs.Below.{ClusterOf, HasLayoutOf, LayoutOf}
use Rattle.tdf_saved.specs.State.{ClusterStateOf}
use Rattle.tdf_sim_resumed.specs.Made.{GoesOnFromState}

-- the first n clusters go on from their states
pub record AreMadeUpTo (flat : Flat) (states : List ClusterStateOf) (time n : ℕ)
    (cs : List ClusterOf) : Type 0 where
  pub long : length cs ≡ n
  pub each : (m : ℕ) (s : ClusterStateOf) (c : ClusterOf) → slice_get states m ≡ Some s
      → slice_get cs m ≡ Some c → GoesOnFromState flat (m + 1) s time c

-- and what is laid out for those after them is still there
pub record AreMadeWith (flat : Flat) (states : List ClusterStateOf) (time n : ℕ)
    (cs : List ClusterOf) (layout : LayoutOf) : Type 0 where
  pub made : AreMadeUpTo flat states time n cs
  pub left : (m : ℕ) → n < m → HasLayoutOf flat m layout
