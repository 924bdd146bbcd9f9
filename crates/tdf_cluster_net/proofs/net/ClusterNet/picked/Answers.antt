use Rattle.std.proofs.Common.{◌∙◌, ap, map}
use Rattle.std.proofs.lemmas.Result.{IfOk-weaker}
use Rattle.std.specs.Prelude.{slice_index}
use Rattle.tdf_cluster_net.proofs.Valued.{picked_each, picked_long}
use Rattle.tdf_cluster_net.specs.Own.{OwnOf}
use Rattle.tdf_cluster_net.proofs.net.ClusterNet.picked.Goals as goal

pub returns-clause-long : goal.returns-clause-long
returns-clause-long c = IfOk-weaker c.gather.result _ _
    (λ own is. picked_long c.args.self.now.actor_numbers c.args.all.now.items own.items (is ∙ ap (λ (x : OwnOf). map (slice_index c.args.all.now.items) x.actor_numbers) c.self.view_is)) c.gather.ensures

pub returns-clause-each : goal.returns-clause-each
returns-clause-each c = IfOk-weaker c.gather.result _ _
    (λ own is. picked_each c.args.self.now.actor_numbers c.args.all.now.items own.items (is ∙ ap (λ (x : OwnOf). map (slice_index c.args.all.now.items) x.actor_numbers) c.self.view_is)) c.gather.ensures
