-- Which edge of a cluster makes its balance equations unsolvable, or its counts too large.
-- Source: own.
use Rattle.std.specs.Prelude.{ℕ, ◌<◌, ◌≤◌, ◌+◌, List, length, sum, nat_eq, take, ◌⊎◌, slice_index}
use Rattle.std.specs.List.{filter}
use Rattle.tdf_base.specs.Limits.{most_firings}
use Rattle.tdf_graph.specs.Counts.{Solves, IsLeast, AreCounts}
use Rattle.tdf_graph.specs.declared.actors.Edge.{Edge}

-- the edges of a cluster, in order
abbrev pub cluster_edges : (clusters : List ℕ) (cluster : ℕ) → List Edge → List Edge
cluster_edges clusters cluster edges =
    filter (λ e. nat_eq (slice_index clusters e.writer) cluster) edges

-- those up to edge k
abbrev pub edges_to : (clusters : List ℕ) (cluster : ℕ) → List Edge → ℕ → List Edge
edges_to clusters cluster edges k = cluster_edges clusters cluster (take (k + 1) edges)

-- no positive numbers meet the balance equations of these edges
abbrev pub IsUnsolvable : List Edge → Type 0
IsUnsolvable edges = (counts : ℕ → ℕ) → Solves edges counts → ⊥

-- in some part that these edges connect the least solution has a count above the limit
pub record IsTooLarge (edges : List Edge) : Type 0 where
  pub actor : ℕ
  pub counts : ℕ → ℕ
  pub least : IsLeast edges actor counts
  pub above : most_firings < counts actor

abbrev pub IsBad : List Edge → Type 0
IsBad edges = IsUnsolvable edges ⊎ IsTooLarge edges

-- edge k is the first of the cluster that is unsolvable or too large
pub record IsFirstBad (edges : List Edge) (clusters : List ℕ) (cluster k : ℕ) : Type 0 where
  pub within : k < length edges
  pub bad : IsBad (edges_to clusters cluster edges k)
  pub before : (j : ℕ) → j < k → IsBad (edges_to clusters cluster edges j) → ⊥

abbrev pub IsNoneBad : (edges : List Edge) (clusters : List ℕ) (cluster : ℕ) → Type 0
IsNoneBad edges clusters cluster =
    (k : ℕ) → k < length edges → IsBad (edges_to clusters cluster edges k) → ⊥

-- the fault of edge k
pub record IsRatesFault (edges : List Edge) (clusters : List ℕ) (cluster k : ℕ) : Type 0 where
  pub first : IsFirstBad edges clusters cluster k
  pub unsolvable : IsUnsolvable (edges_to clusters cluster edges k)

-- too many firings up to an edge, or in all
pub data IsSizeFault (edges : List Edge) (clusters : List ℕ) (cluster : ℕ) : Type 0 where
  at_edge : (k : ℕ) → IsFirstBad edges clusters cluster k
      → IsTooLarge (edges_to clusters cluster edges k) → IsSizeFault edges clusters cluster
  in_all : (counts : List ℕ) → IsNoneBad edges clusters cluster
      → AreCounts edges clusters cluster counts → most_firings < sum counts
      → IsSizeFault edges clusters cluster

-- the counts, where there is no fault
pub record HasCounts (edges : List Edge) (clusters : List ℕ) (cluster : ℕ) (counts : List ℕ)
    : Type 0 where
  pub none_bad : IsNoneBad edges clusters cluster
  pub counts_are : AreCounts edges clusters cluster counts
  pub few : sum counts ≤ most_firings
