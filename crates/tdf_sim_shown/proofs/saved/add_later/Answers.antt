use Rattle.std.proofs.Common.{rules, ◌≡◌, ◌+◌, ◌<◌, Some, length, refl, slice_get, slice_set, subst, sym}
use Rattle.std.proofs.lemmas.Option.{slice_get_read}
use Rattle.tdf_saved.specs.State.{ColumnStateOf}
use Rattle.tdf_sim_shown.proofs.Adding.{later_more}
use Rattle.tdf_sim_shown.proofs.saved.add_later.Goals as goal
use Rattle.tdf_sim_shown.specs.machine.Waiting.{HaveLater}

pub loop-k-preserved : goal.loop-k-preserved
loop-k-preserved c =
    let less : c.loop-k.k < length c.loop-k.columns.items = search rules in
    let at : slice_get c.loop-k.columns.items c.loop-k.k ≡ Some c.index_mut.result.now = slice_get_read c.loop-k.columns.items (length c.loop-k.columns.items) c.loop-k.k c.index_mut.result.now refl less (search rules) in
    subst (λ (z : ColumnStateOf). HaveLater c.args.tables.now c.args.tracking.now.list (c.loop-k.k + 1) c.args.columns.now.items (slice_set c.loop-k.columns.items c.loop-k.k (record z { later = c.in_ok-later.later.items })))
    (sym c.behind-columns.view_is)
    (later_more c.args.tables.now c.args.tracking.now.list c.loop-k.k c.args.columns.now.items c.loop-k.columns.items c.index_mut.result.now c.in_ok-later.later.items at less c.loop-k.invariant c.in_ok-later.ensures)
