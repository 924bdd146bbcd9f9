use Rattle.std.proofs.Common.{map}
use Rattle.tdf_bind_tables.specs.declared.actors.ActorRow.{ActorRow}
use Rattle.tdf_cluster_net.specs.Made.{ArePickedOf}
use Rattle.tdf_cluster_plans.proofs.own_parts.own_actors.Given as goal

abbrev pub invariant-loop-i : goal.invariant-loop-i
invariant-loop-i l = ArePickedOf (map (λ (row : ActorRow). row.kind) l.actors) l.numbers l.i l.own.items
