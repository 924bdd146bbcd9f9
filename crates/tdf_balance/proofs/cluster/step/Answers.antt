use Rattle.tdf_balance.proofs.Answered.{added}
use Rattle.tdf_balance.specs.Balance.{cluster_edges}
use Rattle.std.proofs.Common.{take}
use Rattle.tdf_balance.proofs.cluster.step.Goals as goal

pub returns : goal.returns
returns c = added _ c.args.edges.now c.args.clusters.now c.args.cluster c.args.k _ c.requires.within c.add_edge.result c.if-clusters-edge.false
    (c.add_edge.ensures (cluster_edges c.args.clusters.now c.args.cluster (take c.args.k c.args.edges.now)) c.requires.least)
