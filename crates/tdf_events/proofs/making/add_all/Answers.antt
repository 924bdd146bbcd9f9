use Rattle.std.proofs.Common.{rules, ◌≡◌, ◌<◌, ◌++◌, ◌∷◌, [], length, slice_index, slice_set}
use Rattle.tdf_events_queue.specs.Lists.{list_at}
use Rattle.tdf_events.proofs.Tables.{add_more}
use Rattle.tdf_events.proofs.making.add_all.Goals as goal

pub loop-i-preserved : goal.loop-i-preserved
loop-i-preserved c =
    let less : c.loop-i.i < length c.args.numbers.now = search rules in
    let inside : slice_index c.args.numbers.now c.loop-i.i < length c.loop-i.lists = search rules in
    let put : c.add.new.self ≡ slice_set c.loop-i.lists (slice_index c.args.numbers.now c.loop-i.i) (list_at c.loop-i.lists (slice_index c.args.numbers.now c.loop-i.i) ++ c.args.process ∷ []) = search rules in
    add_more c.args.numbers.now c.args.process c.loop-i.i c.args.lists.now c.loop-i.lists c.add.new.self less inside c.loop-i.invariant put
