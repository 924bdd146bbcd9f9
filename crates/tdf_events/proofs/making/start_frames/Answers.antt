use Rattle.std.proofs.Common.{rules, ◌≡◌, Some, length, slice_get, refl, subst}
use Rattle.std.proofs.lemmas.Option.{slice_get_read}
use Rattle.tdf_bind_connections.specs.ProcessBlocks.{BlockRowOf}
use Rattle.tdf_events.specs.machine.Making.{IsFirstFrame}
use Rattle.tdf_events.proofs.Tables.{frames_more}
use Rattle.tdf_events.proofs.making.start_frames.Goals as goal

pub loop-i-preserved : goal.loop-i-preserved
loop-i-preserved c =
    let at : slice_get c.args.blocks.now c.loop-i.i ≡ Some c.index-blocks-i.result = slice_get_read c.args.blocks.now (length c.args.blocks.now) c.loop-i.i c.index-blocks-i.result refl (search rules) (search rules) in
    let first : IsFirstFrame c.args.checked.now c.index-blocks-i.result.block c.in_ok-frame.frame = subst (λ (r : BlockRowOf). IsFirstFrame c.args.checked.now r.block c.in_ok-frame.frame) c.row.view_is (record { formats = c.in_ok-frame.ensures.formats; rates = c.in_ok-frame.ensures.rates; cells = c.in_ok-frame.ensures.start_cells; values = c.in_ok-frame.ensures.start_rates }) in
    frames_more c.args.checked.now c.args.blocks.now c.loop-i.i c.index-blocks-i.result c.in_ok-frame.frame c.loop-i.frames.items c.push.new.self.items at c.loop-i.invariant first (search rules)
