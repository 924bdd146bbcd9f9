use Rattle.std.proofs.Common.{◌∙◌, ◌<◌, length, sym, subst, ap}
use Rattle.std.proofs.lemmas.Int.{to_z-of_z}
use Rattle.tdf_expr.proofs.Framed.{cell_set}
use Rattle.tdf_expr.proofs.frames.Frame.set_cell.Goals as goal
use Rattle.tdf_expr.specs.Frames.{FrameSeen, IsFrameFit}
use Rattle.tdf_fixed.specs.Overflow.{IsOfWidth}
use Rattle.tdf_fixed.specs.declared.format.Format.{Format}
use Rattle.std.specs.Prelude.{◌≡◌, Some, slice_get, slice_set}
use Rattle.tdf_expr_state.specs.State.{FrameState}

pub invariant_of-self : goal.invariant_of-self
invariant_of-self c =
    let f : FrameSeen = record { formats = c.self.inside.formats.items; rates = c.self.inside.rates.items; state = c.self.inside.cells } in
    let within : c.args.i < length f.formats = subst (λ (x : FrameSeen). c.args.i < length x.formats) (sym c.self.view_is) c.requires.cell in
    let range : (g : Format) → slice_get f.formats c.args.i ≡ Some g → IsOfWidth g.signed g.wl c.args.num =
    subst (λ (x : FrameSeen). (g : Format) → slice_get x.formats c.args.i ≡ Some g → IsOfWidth g.signed g.wl c.args.num) (sym c.self.view_is) c.requires.range in
    subst (λ (s : FrameState). IsFrameFit (record f { state = s }))
    (sym (c.set_cell.ensures ∙ ap (λ z. record { cells = slice_set c.self.inside.cells.cells c.args.i z; rates = c.self.inside.cells.rates }) (to_z-of_z _ c.args.num c.ranges.num)))
    (cell_set f c.args.i c.args.num c.self.invariant within range)
