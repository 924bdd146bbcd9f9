use Rattle.std.proofs.Common.{◌≡◌, length, arith}
use Rattle.tdf_schedule.proofs.Orders.{counted_all}
use Rattle.tdf_schedule.proofs.sorted.entries_by_actor.Goals as goal

pub returns-clause-complete : goal.returns-clause-complete
returns-clause-complete c = counted_all c.args.table.now.items c.loop-actor.actor c.loop-actor.entries.items
    (let n : length c.args.table.now.items ≡ c.loop-actor.actor = omega (arith, c.loop-actor-test.false, c.loop-actor.auto.actor-end, c.len-actor-end.ensures, c.args.table.now.ok) in n) c.loop-actor.invariant.counted
