use Rattle.tdf_schedule.proofs.Plans.{narrow_more}
use Rattle.tdf_schedule.proofs.cluster.narrow.Goals as goal

pub loop-k-preserved : goal.loop-k-preserved
loop-k-preserved c = narrow_more c.loop-k.k c.args.edges.now c.args.counts.now c.args.bounds.now c.loop-k.list.items c.push.new.self.items _ c.own_bound.result c.loop-k.invariant c.own_bound.ensures c.in_ok-push.ensures.ok
