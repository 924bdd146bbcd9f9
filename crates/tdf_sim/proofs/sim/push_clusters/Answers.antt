use Rattle.std.proofs.Common.{◌∙◌, ap, ◌++◌}
use Rattle.tdf_dynamic_texts.proofs.Api.{texts_next}
use Rattle.tdf_sim.proofs.Printing.{text_at, text_is}
use Rattle.tdf_sim.proofs.sim.push_clusters.Goals as goal

pub push_cluster-requires-clause-plan : goal.push_cluster-requires-clause-plan
push_cluster-requires-clause-plan c = c.requires.plans.each c.loop-made.made c.first_at.result.now c.first_at.ensures

pub loop-made-preserved : goal.loop-made-preserved
loop-made-preserved c = texts_next (text_at c.args.flat.now c.args.firsts.now.items) c.loop-made.made c.args.out.now.items c.loop-made.out.items c.push_cluster.new.out.items
    c.loop-made.invariant
    (c.in_ok-push_cluster.ensures ∙ ap (λ text. c.loop-made.out.items ++ text) (text_is c.args.flat.now c.args.firsts.now.items c.loop-made.made c.first_at.result.now c.first_at.ensures))
