-- What holds of the definitions of nets.
-- Source: own.
use Rattle.std.specs.Prelude.{ℕ, ◌≡◌, List}
use Rattle.tdf_graph.specs.Clusters.{AreClusters}
use Rattle.tdf_graph.specs.declared.actors.Edge.{Edge}

-- two lists of numbers of the clusters of one net are the same
abbrev pub ClustersAreUnique : Type 0
ClustersAreUnique = (count : ℕ) (edges : List Edge) (one other : List ℕ)
    → AreClusters count edges one → AreClusters count edges other → one ≡ other
