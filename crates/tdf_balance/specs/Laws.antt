-- What holds of the counts of a cluster.
-- Source: own.
use Rattle.std.specs.Prelude.{ℕ, ◌≡◌, ◌*◌, List, All, Contains}
use Rattle.tdf_graph.specs.Clusters.{Joined, AreClusters}
use Rattle.tdf_graph.specs.Counts.{Solves, IsLeast, AreCounts}
use Rattle.tdf_graph.specs.Ranges.{IsEdge}
use Rattle.tdf_graph.specs.declared.actors.Edge.{Edge}
use Rattle.tdf_balance.specs.Balance.{IsRatesFault, IsSizeFault, HasCounts}

-- each solution is on a part the same multiple of the least one
pub record IsMultiple (edges : List Edge) (actor : ℕ) (least counts : ℕ → ℕ) : Type 0 where
  pub times : ℕ
  pub each : (a : ℕ) → Joined edges actor a → counts a ≡ least a * times

abbrev pub SolutionsAreMultiples : Type 0
SolutionsAreMultiples = (count : ℕ) (edges : List Edge) (actor : ℕ) (least counts : ℕ → ℕ)
    → All (IsEdge count) edges → IsLeast edges actor least → Solves edges counts
    → IsMultiple edges actor least counts

-- two lists of counts of one cluster are the same
abbrev pub CountsAreUnique : Type 0
CountsAreUnique = (count : ℕ) (edges : List Edge) (clusters : List ℕ) (cluster : ℕ)
    → (one other : List ℕ)
    → All (IsEdge count) edges → AreClusters count edges clusters → Contains clusters cluster
    → AreCounts edges clusters cluster one → AreCounts edges clusters cluster other → one ≡ other

-- of the fault of an edge, too many firings and counts there is at most one
pub record AnswersExclude : Type 0 where
  pub one_edge : (edges : List Edge) (clusters : List ℕ) (cluster j k : ℕ)
      → IsRatesFault edges clusters cluster j → IsRatesFault edges clusters cluster k → j ≡ k
  pub rates_or_size : (edges : List Edge) (clusters : List ℕ) (cluster k : ℕ)
      → IsRatesFault edges clusters cluster k → IsSizeFault edges clusters cluster → ⊥
  pub rates_or_counts : (edges : List Edge) (clusters counts : List ℕ) (cluster k : ℕ)
      → IsRatesFault edges clusters cluster k → HasCounts edges clusters cluster counts → ⊥
  pub size_or_counts : (count : ℕ) (edges : List Edge) (clusters counts : List ℕ) (cluster : ℕ)
      → All (IsEdge count) edges → AreClusters count edges clusters → Contains clusters cluster
      → IsSizeFault edges clusters cluster → HasCounts edges clusters cluster counts → ⊥
