use Rattle.std.proofs.Common.{◌≡◌, ◌∙◌, ◌+◌, ◌-◌, ap, arith, refl, subst}
use Rattle.tdf_expr_machine.proofs.Flats.{cast_goes}
use Rattle.tdf_expr_machine.specs.machine.Flattening.{GoesOn, TakesValue}
use Rattle.tdf_expr_machine.specs.machine.Steps.{IsNarrow}
use Rattle.tdf_fixed.specs.Cast.{fraction_of}
use Rattle.tdf_fixed.specs.declared.format.Format.{Format}
use Rattle.tdf_expr_machine.proofs.flattening.cast_steps.Goals as goal

pub returns-else-not-branch : goal.returns-else-not-branch
returns-else-not-branch c =
    let cast = c.args.cast.now in
    let inside = c.cast.inside.0 in
    let old = c.args.code.now.items in
    let new = c.take.new.code.items in
    let same : inside.0.node ≡ cast.value = ap (λ x. x.value) c.cast.view_is in
    let frac : inside.1.0 ≡ cast.frac = ap (λ x. x.frac) c.cast.view_is in
    let format : inside.1.1.0 ≡ cast.format = ap (λ x. x.format) c.cast.view_is in
    let narrow = c.cast.invariant.narrow c.if-not-cast.false in
    let up = fraction_of cast.format - cast.frac in
    let rise : c.saturating_sub-up.result ≡ fraction_of inside.1.1.0 - inside.1.0 = omega (arith, c.saturating_sub-up.ensures) in
    let is_up : c.saturating_sub-up.result ≡ up =
    rise ∙ ap (λ (f : Format). fraction_of f - inside.1.0) format ∙ ap (λ k. fraction_of cast.format - k) frac in
    let taken : GoesOn (TakesValue cast.value up) old new =
    subst (λ x. GoesOn (TakesValue x up) old new) same (subst (λ k. GoesOn (TakesValue inside.0.node k) old new) is_up (c.in_ok-take-in-Some.ensures (c.if-not-branch.false))) in
    let kept : IsNarrow cast.value narrow.0 = subst (λ x. IsNarrow x narrow.0) same narrow.1 in
    let fit = c.in-Some in
    let fit_frac : fit.fit.frac ≡ cast.frac + up =
    fit.ensures.frac ∙ ap (λ k. inside.1.0 + k) is_up ∙ ap (λ k. k + up) frac in
    cast_goes cast fit.fit narrow.0 up old new kept taken refl fit_frac (fit.ensures.format ∙ format) fit.ensures.cut
