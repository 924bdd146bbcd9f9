use Rattle.tdf_schedule.proofs.Lates.{sinks_more, sinks_none}
use Rattle.tdf_schedule.proofs.faults.first_late.Goals as goal

pub loop-actor-preserved : goal.loop-actor-preserved
loop-actor-preserved c = sinks_more c.args.actors.now c.args.table.now.items c.args.paces.now c.loop-actor.actor c.loop-actor.invariant c.in-None.ensures

pub returns : goal.returns
returns c = sinks_none c.args.actors.now c.args.table.now.items c.args.paces.now c.loop-actor.actor c.loop-actor-test.false c.loop-actor.invariant
