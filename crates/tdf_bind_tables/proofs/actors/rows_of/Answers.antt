use Rattle.tdf_bind_tables.proofs.ActorLoops.{rows_next}
use Rattle.tdf_bind_tables.proofs.actors.rows_of.Goals as goal

pub loop-i-preserved : goal.loop-i-preserved
loop-i-preserved c = rows_next c.args.places.now c.args.numbers.now c.loop-i.i _ _ c.actor_row.result c.loop-i.rows.items c.push.new.self.items
    c.requires c.loop-i-test.true c.loop-i.invariant c.actor_row.ensures.place c.actor_row.ensures.cluster c.in_ok-push.ensures.items
