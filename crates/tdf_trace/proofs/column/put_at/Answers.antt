use Rattle.std.proofs.Common.{length, refl, sym, ◌∙◌}
use Rattle.std.proofs.lemmas.Option.{slice_get_read}
use Rattle.tdf_trace.proofs.Puts.{put_set, put_insert}
use Rattle.tdf_trace.proofs.column.put_at.Goals as goal

pub returns-then-index-item-clause-ok : goal.returns-then-index-item-clause-ok
returns-then-index-item-clause-ok c =
    sym (put_set c.args.item c.index.result.now c.args.held.now.items c.args.place c.requires.place
    (slice_get_read c.args.held.now.items (length c.args.held.now.items) c.args.place c.index.result.now refl c.requires.before c.index.ensures) c.if-index-item.true)

pub returns-clause-ok : goal.returns-clause-ok
returns-clause-ok c =
    c.in_ok-insert.ensures.items ∙ sym (put_insert c.args.item c.index.result.now c.args.held.now.items c.args.place c.requires.place
    (slice_get_read c.args.held.now.items (length c.args.held.now.items) c.args.place c.index.result.now refl c.requires.before c.index.ensures) c.if-index-item.false)
