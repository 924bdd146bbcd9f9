use Rattle.std.proofs.Common.{◌+◌, map, subst, sym}
use Rattle.tdf_bind_tables.specs.declared.actors.ActorRow.{ActorRow}
use Rattle.tdf_cluster_net.specs.Made.{ArePickedOf}
use Rattle.tdf_cluster_plans.proofs.Parts.{picked_index}
use Rattle.tdf_cluster_plans.proofs.own_parts.own_actors.Goals as goal

pub loop-i-preserved : goal.loop-i-preserved
loop-i-preserved c = subst (ArePickedOf (map (λ (row : ActorRow). row.kind) c.args.actors.now) c.args.numbers.now (c.loop-i.i + 1)) (sym (c.in_ok-push.ensures).items)
    (picked_index (λ (row : ActorRow). row.kind) c.args.actors.now c.args.numbers.now c.loop-i.i c.loop-i.own.items _ c.kind_of.result c.kind_of.ensures (c.requires c.loop-i.i c.loop-i-test.true) c.loop-i.invariant)
