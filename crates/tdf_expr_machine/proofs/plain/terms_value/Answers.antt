use Rattle.std.proofs.Common.{rules, ◌≡◌, ◌∙◌, ◌^◌, ℤ, pos, ◌+ℤ◌, ◌*ℤ◌, ap, subst, sym}
use Rattle.std.specs.Int.{w64}
use Rattle.std.specs.Prelude.{FitsSigned, IfSome, IsSome}
use Rattle.tdf_expr_machine.specs.machine.Plain.{elements_product, terms_value}
use Rattle.tdf_expr_state.specs.State.{cell_at}
use Rattle.tdf_expr_machine.proofs.plain.terms_value.Goals as goal

pub returns-clause-value : goal.returns-clause-value
returns-clause-value c =
    let cells = c.args.cells.now.cells in
    let t = c.args.terms.now in
    let both : ℤ = elements_product t.first t.second c.args.turn cells in
    let base : c.in_ok-base.base ≡ cell_at cells t.base *ℤ pos (2 ^ t.lift) = search rules in
    let rise : c.in_ok-raised.field-0 ≡ both *ℤ pos (2 ^ t.rise) = search rules in
    let sums : IfSome c.sum.result (λ n. n ≡ c.in_ok-base.base +ℤ c.in_ok-raised.field-0) = search rules in
    subst (λ (z : ℤ). IfSome c.sum.result (λ n. n ≡ z))
    (ap (λ z. z +ℤ c.in_ok-raised.field-0) base ∙ ap (λ z. cell_at cells t.base *ℤ pos (2 ^ t.lift) +ℤ z) rise)
    sums

pub returns-clause-found : goal.returns-clause-found
returns-clause-found c fit =
    let cells = c.args.cells.now.cells in
    let t = c.args.terms.now in
    let both : ℤ = elements_product t.first t.second c.args.turn cells in
    let base : c.in_ok-base.base ≡ cell_at cells t.base *ℤ pos (2 ^ t.lift) = search rules in
    let rise : c.in_ok-raised.field-0 ≡ both *ℤ pos (2 ^ t.rise) = search rules in
    let found : FitsSigned w64 (c.in_ok-base.base +ℤ c.in_ok-raised.field-0) → IsSome c.sum.result = search rules in
    let whole : FitsSigned w64 (terms_value t c.args.turn cells) = fit.4 in
    found (subst (λ (z : ℤ). FitsSigned w64 z)
    (sym (ap (λ z. z +ℤ c.in_ok-raised.field-0) base ∙ ap (λ z. cell_at cells t.base *ℤ pos (2 ^ t.lift) +ℤ z) rise)) whole)
