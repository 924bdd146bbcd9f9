use Rattle.tdf_bind_tables.proofs.Joining.{most_next}
use Rattle.tdf_bind_tables.proofs.flat.cluster_count.Goals as goal

pub loop-i-preserved : goal.loop-i-preserved
loop-i-preserved c = most_next c.args.actors.now c.loop-i.i _ c.loop-i.most c.max-most.result c.loop-i-test.true c.loop-i.invariant c.max-most.ensures
