use Rattle.tdf_rings.proofs.Copies.{one_more}
use Rattle.tdf_rings.proofs.carrying.copy.Goals as goal

pub loop-i-preserved : goal.loop-i-preserved
loop-i-preserved c = one_more c.args.from.now.samples c.loop-i.i c.args.to.now.capacity c.read.result c.loop-i.to c.put.new.self c.read.ensures c.loop-i.invariant c.put.ensures
