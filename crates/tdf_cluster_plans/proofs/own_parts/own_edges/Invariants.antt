use Rattle.std.proofs.Common.{map}
use Rattle.tdf_dynamic_plans.specs.Rates.{net_ports, rated_edge}
use Rattle.tdf_cluster_net.specs.Made.{ArePickedOf}
use Rattle.tdf_cluster_plans.proofs.own_parts.own_edges.Given as goal

abbrev pub invariant-loop-i : goal.invariant-loop-i
invariant-loop-i l = ArePickedOf (map (rated_edge l.tables.ports (net_ports l.tables l.table)) l.tables.edges) l.numbers l.i l.own.items
