use Rattle.std.proofs.Common.{◌∙◌, ap, map}
use Rattle.std.specs.Prelude.{slice_index}
use Rattle.tdf_cluster_net.proofs.Valued.{picked_each, picked_long}
use Rattle.tdf_cluster_net.specs.Own.{OwnOf}
use Rattle.tdf_cluster_net.proofs.net.ClusterNet.picked_steps.Goals as goal

pub returns-clause-long : goal.returns-clause-long
returns-clause-long c = picked_long c.args.self.now.actor_numbers c.args.steps.now.actor_steps.items c.in_ok-actor_steps.actor_steps.items
    (c.in_ok-actor_steps.ensures ∙ ap (λ (x : OwnOf). map (slice_index c.args.steps.now.actor_steps.items) x.actor_numbers) c.self.view_is)

pub returns-clause-each : goal.returns-clause-each
returns-clause-each c = picked_each c.args.self.now.actor_numbers c.args.steps.now.actor_steps.items c.in_ok-actor_steps.actor_steps.items
    (c.in_ok-actor_steps.ensures ∙ ap (λ (x : OwnOf). map (slice_index c.args.steps.now.actor_steps.items) x.actor_numbers) c.self.view_is)
