use Rattle.tdf_sim.proofs.Printing.{actors_fit, bounds_fit}
use Rattle.tdf_sim.proofs.sim.push_cluster.Goals as goal

pub push_plan-requires-clause-bounds : goal.push_plan-requires-clause-bounds
push_plan-requires-clause-bounds c = bounds_fit c.args.flat.now c.args.cluster c.args.first.now c.requires.plan

pub push_fires-requires-clause-actors : goal.push_fires-requires-clause-actors
push_fires-requires-clause-actors c = actors_fit c.args.flat.now c.args.cluster c.args.first.now c.requires.plan
