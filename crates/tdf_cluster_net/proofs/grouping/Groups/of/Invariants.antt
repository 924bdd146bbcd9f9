use Rattle.tdf_cluster_net.specs.views.Grouping.{AreGroupsUpTo}
use Rattle.tdf_cluster_net.proofs.grouping.Groups.of.Given as goal

abbrev pub invariant-loop-number : goal.invariant-loop-number
invariant-loop-number l = AreGroupsUpTo l.count l.of l.number l.rows.items
