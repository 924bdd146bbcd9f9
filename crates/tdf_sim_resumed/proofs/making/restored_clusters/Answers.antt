use Rattle.std.specs.Global.{Global}
use Rattle.std.specs.Prelude.{Vec}
use Rattle.tdf_sim_refinement.specs.Below.{ClusterOf}
use Rattle.tdf_sim_resumed.proofs.Onward.{refused}
use Rattle.tdf_sim_resumed.proofs.making.restored_clusters.Goals as goal

pub returns-clause-bad_always : goal.returns-clause-bad_always
returns-clause-bad_always c = refused c.args.flat.now c.args.states.now c.args.time (λ (v : Vec ClusterOf Global). v.items) c.clusters_with.result c.clusters_with.ensures.made
