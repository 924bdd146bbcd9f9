use Rattle.std.proofs.Common.{rules, ◌≡◌, slice_get, Some, length, refl}
use Rattle.std.proofs.lemmas.Option.{slice_get_read}
use Rattle.tdf_trace.proofs.Puts.{rising_in_order, set_put}
use Rattle.tdf_trace.proofs.columns.put_cell.Goals as goal

pub put-requires : goal.put-requires
put-requires c =
    let here : slice_get c.args.columns.now.items c.args.place ≡ Some c.index_mut.result.now = slice_get_read c.args.columns.now.items (length c.args.columns.now.items) c.args.place c.index_mut.result.now refl (search rules) (search rules) in
    rising_in_order c.args.upto c.index_mut.result.now.held ((c.requires.sound c.args.place c.index_mut.result.now here).rising)

pub returns-clause-ok : goal.returns-clause-ok
returns-clause-ok c =
    let here : slice_get c.args.columns.now.items c.args.place ≡ Some c.index_mut.result.now = slice_get_read c.args.columns.now.items (length c.args.columns.now.items) c.args.place c.index_mut.result.now refl (search rules) (search rules) in
    set_put c.args.columns.now.items c.args.place c.args.item c.index_mut.result.now c.put.new.self here c.in_ok-put.ensures.ok
