use Rattle.std.proofs.Common.{map}
use Rattle.tdf_dynamic_plans.specs.Rates.{rated_port}
use Rattle.tdf_cluster_net.specs.Made.{ArePickedOf}
use Rattle.tdf_cluster_plans.proofs.own_parts.own_ports.Given as goal

abbrev pub invariant-loop-i : goal.invariant-loop-i
invariant-loop-i l = ArePickedOf (map (rated_port l.table) l.ports) l.numbers l.i l.own.items
