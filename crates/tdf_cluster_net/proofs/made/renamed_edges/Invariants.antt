use Rattle.tdf_cluster_net.specs.Made.{AreRenamedEdges}
use Rattle.tdf_cluster_net.proofs.made.renamed_edges.Given as goal

abbrev pub invariant-loop-i : goal.invariant-loop-i
invariant-loop-i l = AreRenamedEdges l.numbers l.edges l.i l.own.items
