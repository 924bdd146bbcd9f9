use Rattle.tdf_save.specs.Text.{saved_cluster}
use Rattle.tdf_save.proofs.Each.{each_begins, each_one_more, each_done}
use Rattle.tdf_save.proofs.parts.push_clusters.Goals as goal

pub loop-k-init : goal.loop-k-init
loop-k-init c = each_begins saved_cluster c.args.out.now.items c.args.members.now c.args.states.now

pub loop-k-preserved : goal.loop-k-preserved
loop-k-preserved c =
    each_one_more saved_cluster c.args.out.now.items c.loop-k.out.items c.push_cluster.new.out.items c.args.members.now c.args.states.now c.min-k-end.result c.loop-k.k c.index-members-k.result c.index-states-k.result
    c.min-k-end.ensures c.loop-k-test.true c.index-members-k.is c.index-states-k.is c.loop-k.invariant c.in_ok-push_cluster.ensures.ok

pub returns-clause-ok : goal.returns-clause-ok
returns-clause-ok c = each_done saved_cluster c.args.out.now.items c.loop-k.out.items c.args.members.now c.args.states.now c.min-k-end.result c.loop-k.k c.min-k-end.ensures c.loop-k-test.false c.loop-k.invariant
