use Rattle.tdf_sim.proofs.Refusing.{plans_put, plans_refused}
use Rattle.tdf_sim.proofs.sim.push_next.Goals as goal

pub returns-in-Ok-clause-plans : goal.returns-in-Ok-clause-plans
returns-in-Ok-clause-plans c = plans_put c.put.result c.args.flat.now c.args.firsts.now.items c.put.new.firsts.items c.in-Ok.first c.args.cluster
    c.requires.plans c.requires.next c.in-Ok.ensures.plan c.put.ensures.put

pub returns-in-Err-clause-refused : goal.returns-in-Err-clause-refused
returns-in-Err-clause-refused c = plans_refused c.args.flat.now c.args.cluster c.args.firsts.now.items c.in-Err.error c.requires.within c.requires.next c.requires.plans c.in-Err.ensures.refused
