use Rattle.std.proofs.Common.{◌≡◌, ◌∙◌, length, map, sym, subst, ap}
use Rattle.std.proofs.lemmas.List.{length-map}
use Rattle.tdf_expr.proofs.frames.Frame.set_cells.Goals as goal
use Rattle.tdf_expr.specs.Frames.{FrameSeen, IsFrameFit}
use Rattle.tdf_expr.specs.Plans.{shape_written}
use Rattle.tdf_expr_semantics.specs.Fits.{NumbersFit}
use Rattle.tdf_expr_state.specs.State.{FrameState}

pub set_cells-requires : goal.set_cells-requires
set_cells-requires c =
    let fits : NumbersFit (map shape_written c.self.inside.formats.items) c.args.nums.now = subst (λ (x : FrameSeen). NumbersFit (map shape_written x.formats) c.args.nums.now) (sym c.self.view_is) c.requires in
    fits.long ∙ sym c.self.invariant.cells.long

pub invariant_of-self : goal.invariant_of-self
invariant_of-self c =
    let f : FrameSeen = record { formats = c.self.inside.formats.items; rates = c.self.inside.rates.items; state = c.self.inside.cells } in
    let fits : NumbersFit (map shape_written f.formats) c.args.nums.now = subst (λ (x : FrameSeen). NumbersFit (map shape_written x.formats) c.args.nums.now) (sym c.self.view_is) c.requires in
    subst (λ (s : FrameState). IsFrameFit (record f { state = s })) (sym c.set_cells.ensures)
    (record { few = c.self.invariant.few; cells = fits; rates = c.self.invariant.rates })
