-- A cluster in progress at its start is what the history says of it at its start.
-- Source: own.
use Rattle.std.specs.Prelude.{◌≡◌, ℕ, ◌+◌, List, [], Some, length, replicate, slice_get}
use Rattle.tdf_exec.specs.Below.{First, IsFirstPlan}
use Rattle.tdf_exec.specs.Cluster.{ClusterOf}
use Rattle.tdf_exec.specs.Made.{IsClusterOf}
use Rattle.tdf_exec.specs.Starts.{IsAtStart, StandsAtStart}
use Rattle.tdf_expr.specs.Checked.{IsCheckedOf}
use Rattle.tdf_bind.specs.Flat.{IsFlatOf}
use Rattle.tdf_bind.specs.declared.model.Flat.{Flat}
use Rattle.tdf_sim_history.specs.Start.{first_cluster, first_clusters}
use Rattle.tdf_bind_invariants.specs.Limits.{AreWithinLimits}
use Rattle.tdf_sim_refinement.specs.At.{IsAt}
use Rattle.tdf_sim_refinement.specs.Pass.{AreAt}
use Rattle.tdf_lang_tree.specs.Pure.{PureTree}

-- the cluster was made for its first attributes and plan, which are those of the text
pub record HasBegun (flat : Flat) (number : ℕ) (first : First) (c : ClusterOf) : Type 0 where
  pub first_is : IsFirstPlan flat number first
  pub of : IsClusterOf flat c
  pub start : IsAtStart number first c
  pub stands : StandsAtStart flat c

-- it is then what the history begins with
abbrev pub StartsAreAt : Type 0
StartsAreAt = (model : PureTree) (flat : Flat) (number : ℕ) (first : First) (c : ClusterOf)
    → IsFlatOf model flat → IsCheckedOf model flat.checked → AreWithinLimits flat
    → HasBegun flat number first c
    → IsAt model flat number (first_cluster model flat number first []) c

-- each cluster was made for its first attributes and plan; cluster n has the number n + 1
pub record HaveBegun (flat : Flat) (firsts : List First) (cs : List ClusterOf) : Type 0 where
  pub same : length firsts ≡ length cs
  pub each : (n : ℕ) (first : First) (c : ClusterOf) → slice_get firsts n ≡ Some first
      → slice_get cs n ≡ Some c → HasBegun flat (n + 1) first c

-- they are then what the history begins with, and their periods begin at the time 0
abbrev pub AllStartsAreAt : Type 0
AllStartsAreAt = (model : PureTree) (flat : Flat) (firsts : List First) (cs : List ClusterOf)
    → IsFlatOf model flat → IsCheckedOf model flat.checked → AreWithinLimits flat
    → HaveBegun flat firsts cs
    → AreAt model flat (replicate (length cs) 0) (first_clusters model flat firsts []) cs
