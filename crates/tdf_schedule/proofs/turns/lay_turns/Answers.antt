use Rattle.tdf_schedule.proofs.Gains.{turn_left}
use Rattle.tdf_schedule.proofs.turns.lay_turns.Goals as goal

pub lay_next-requires-clause-more : goal.lay_next-requires-clause-more
lay_next-requires-clause-more c = turn_left c.args.table.now.items c.args.laid.now.done.items c.loop-i.laid.done.items c.args.turns.now c.loop-i.i 0 c.loop-i-test.true c.requires.more c.loop-i.invariant.done
