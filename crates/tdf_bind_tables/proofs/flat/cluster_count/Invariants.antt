use Rattle.std.proofs.Common.{◌≡◌, map, take}
use Rattle.tdf_bind_tables.specs.Actors.{cluster_of}
use Rattle.tdf_graph.specs.Clusters.{greatest}
use Rattle.tdf_bind_tables.proofs.flat.cluster_count.Given as goal

abbrev pub invariant-loop-i : goal.invariant-loop-i
invariant-loop-i l = l.most ≡ greatest (map cluster_of (take l.i l.actors))
