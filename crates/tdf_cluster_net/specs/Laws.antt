-- What holds of the net of a cluster: its counts, steps and plan are those of the cluster in the
-- whole net.
-- Source: own.
use Rattle.std.specs.Prelude.{ℕ, List, All, Contains, length, replicate, slice_index}
use Rattle.tdf_balance.specs.Balance.{HasCounts, IsRatesFault, IsSizeFault}
use Rattle.tdf_cluster_net.specs.Numbers.{AreSpread}
use Rattle.tdf_cluster_net.specs.Own.{IsOwnNet, OwnOf}
use Rattle.tdf_graph.specs.Clusters.{AreClusters}
use Rattle.tdf_graph.specs.Ranges.{IsEdge, IsGraphPort}
use Rattle.tdf_graph.specs.declared.actors.Actor.{Actor}
use Rattle.tdf_graph.specs.declared.actors.Edge.{Edge}
use Rattle.tdf_graph.specs.declared.actors.Port.{Port}

-- a cluster of a net, and its own net; all its actors are in cluster 1 there
pub record IsClusterNet (actors : List Actor) (edges : List Edge) (ports : List Port)
    (clusters : List ℕ) (cluster : ℕ) (own : OwnOf) : Type 0 where
  pub own_is : IsOwnNet actors edges ports clusters cluster own
  pub clusters_are : AreClusters (length actors) edges clusters
  pub has : Contains clusters cluster
  pub edges_fit : All (IsEdge (length actors)) edges
  pub ports_fit : All (IsGraphPort (length actors)) ports

abbrev pub own_clusters : OwnOf → List ℕ
own_clusters own = replicate (length own.actor_numbers) 1

-- counts, and why there are none
abbrev pub OwnCountsAreWhole : Type 0
OwnCountsAreWhole = (actors : List Actor) (edges : List Edge) (ports : List Port)
    (clusters : List ℕ) (cluster : ℕ) (own : OwnOf)
    → IsClusterNet actors edges ports clusters cluster own
    → (counts all : List ℕ) → AreSpread own.actor_numbers (length actors) counts all
    → HasCounts own.edges (own_clusters own) 1 counts → HasCounts edges clusters cluster all

abbrev pub OwnRatesFaultsAreWhole : Type 0
OwnRatesFaultsAreWhole = (actors : List Actor) (edges : List Edge) (ports : List Port)
    (clusters : List ℕ) (cluster : ℕ) (own : OwnOf)
    → IsClusterNet actors edges ports clusters cluster own
    → (k : ℕ) → IsRatesFault own.edges (own_clusters own) 1 k
    → IsRatesFault edges clusters cluster (slice_index own.edge_numbers k)

abbrev pub OwnSizeFaultsAreWhole : Type 0
OwnSizeFaultsAreWhole = (actors : List Actor) (edges : List Edge) (ports : List Port)
    (clusters : List ℕ) (cluster : ℕ) (own : OwnOf)
    → IsClusterNet actors edges ports clusters cluster own
    → IsSizeFault own.edges (own_clusters own) 1 → IsSizeFault edges clusters cluster
