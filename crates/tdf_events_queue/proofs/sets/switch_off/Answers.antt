use Rattle.std.proofs.Common.{rules, arith, ◌≡◌, ◌<◌, length, slice_get, Some}
use Rattle.std.specs.Vec.{vec_len}
use Rattle.std.proofs.lemmas.Option.{slice_get_read}
use Rattle.tdf_events_queue.proofs.Members.{listed_inside, off_step}
use Rattle.tdf_events_queue.proofs.sets.switch_off.Goals as goal

pub index_mut-requires : goal.index_mut-requires
index_mut-requires c =
    let here : slice_get c.args.list.now.items c.loop-i.i ≡ Some c.index.result.now = slice_get_read c.args.list.now.items c.len-i-end.result c.loop-i.i c.index.result.now (search rules) (search rules) (search rules) in
    let inside : c.index.result.now < length c.args.flags.now.items = listed_inside c.args.flags.now.items c.args.list.now.items c.loop-i.i c.index.result.now c.requires here in
    let same : length c.loop-i.flags.items ≡ length c.args.flags.now.items = c.loop-i.invariant.same in
    let is : vec_len c.loop-i.flags ≡ length c.loop-i.flags.items = search rules in omega (arith, inside, same, is)

pub loop-i-preserved : goal.loop-i-preserved
loop-i-preserved c =
    let here : slice_get c.args.list.now.items c.loop-i.i ≡ Some c.index.result.now = slice_get_read c.args.list.now.items c.len-i-end.result c.loop-i.i c.index.result.now (search rules) (search rules) (search rules) in
    let inside : c.index.result.now < length c.args.flags.now.items = listed_inside c.args.flags.now.items c.args.list.now.items c.loop-i.i c.index.result.now c.requires here in
    let same : length c.loop-i.flags.items ≡ length c.args.flags.now.items = c.loop-i.invariant.same in
    off_step c.args.list.now.items c.loop-i.i c.index.result.now c.args.flags.now.items c.loop-i.flags.items here (omega (arith, inside, same)) c.loop-i.invariant
