use Rattle.std.proofs.Common.{◌≤◌, arith, length}
use Rattle.tdf_schedule.proofs.Gains.{all_done, laid_complete, laid_total}
use Rattle.tdf_schedule.proofs.turns.entries_in_turn.Goals as goal

pub returns-clause-complete : goal.returns-clause-complete
returns-clause-complete c = laid_complete c.args.table.now.items c.loop-place.laid.done.items c.loop-place.laid.entries.items c.loop-place.invariant.laid
    (all_done c.args.table.now.items c.args.lists.now.items c.loop-place.place c.loop-place.laid.done.items
    (let n : length c.args.lists.now.items ≤ c.loop-place.place = omega (arith, c.loop-place-test.false, c.len-place-end.ensures, c.args.lists.now.ok) in n) c.requires c.loop-place.invariant.done)

pub returns-clause-long : goal.returns-clause-long
returns-clause-long c = laid_total c.args.table.now.items c.loop-place.laid.done.items c.loop-place.laid.entries.items c.loop-place.invariant.laid
    (all_done c.args.table.now.items c.args.lists.now.items c.loop-place.place c.loop-place.laid.done.items
    (let n : length c.args.lists.now.items ≤ c.loop-place.place = omega (arith, c.loop-place-test.false, c.len-place-end.ensures, c.args.lists.now.ok) in n) c.requires c.loop-place.invariant.done)
