use Rattle.std.proofs.Common.{◌<◌, length, sym, subst, ap}
use Rattle.std.specs.Prelude.{◌≡◌, Some, slice_get}
use Rattle.tdf_expr.proofs.Framed.{rate_set}
use Rattle.tdf_expr.proofs.frames.Frame.set_rate.Goals as goal
use Rattle.tdf_expr.specs.Frames.{FrameSeen, IsFrameFit, IsAllowedRate}
use Rattle.tdf_expr.specs.declared.spans.RateSpan.{RateSpan}
use Rattle.tdf_expr_state.specs.State.{FrameState}

pub invariant_of-self : goal.invariant_of-self
invariant_of-self c =
    let f : FrameSeen = record { formats = c.self.inside.formats.items; rates = c.self.inside.rates.items; state = c.self.inside.cells } in
    let within : c.args.i < length f.rates = subst (λ (x : FrameSeen). c.args.i < length x.rates) (sym c.self.view_is) c.requires.rate in
    let allowed : (r : RateSpan) → slice_get f.rates c.args.i ≡ Some r → IsAllowedRate r c.args.value =
    subst (λ (x : FrameSeen). (r : RateSpan) → slice_get x.rates c.args.i ≡ Some r → IsAllowedRate r c.args.value) (sym c.self.view_is) c.requires.limits in
    subst (λ (s : FrameState). IsFrameFit (record f { state = s })) (sym c.set_rate.ensures) (rate_set f c.args.i c.args.value c.self.invariant within allowed)
