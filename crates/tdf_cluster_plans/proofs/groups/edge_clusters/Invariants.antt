use Rattle.std.proofs.Common.{◌≡◌, map, take}
use Rattle.tdf_cluster_plans.specs.Groups.{edge_cluster}
use Rattle.tdf_cluster_plans.proofs.groups.edge_clusters.Given as goal

abbrev pub invariant-loop-i : goal.invariant-loop-i
invariant-loop-i l = l.of.items ≡ map (edge_cluster l.clusters) (take l.i l.edges)
