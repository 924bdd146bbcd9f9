use Rattle.tdf_cluster_net.proofs.Valued.{spread_by_are}
use Rattle.tdf_cluster_net.proofs.whole.spread.Goals as goal

pub returns : goal.returns
returns c = spread_by_are c.args.numbers.now c.args.count c.requires.within c.requires.rising c.args.values.items c.spread.result.items c.requires.long c.spread.ensures
