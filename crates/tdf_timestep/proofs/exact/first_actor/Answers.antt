use Rattle.tdf_timestep.proofs.Unwhole.{actor_more}
use Rattle.tdf_timestep.proofs.exact.first_actor.Goals as goal

pub loop-actor-preserved : goal.loop-actor-preserved
loop-actor-preserved c = actor_more c.args.net.now.ports.items c.args.counts.now c.args.period c.loop-actor.actor c.loop-actor.best c.consider-best.result c.consider-best.ensures c.loop-actor.invariant
