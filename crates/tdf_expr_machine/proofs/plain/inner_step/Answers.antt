use Rattle.std.proofs.Common.{rules, ◌≡◌, ◌∙◌, ◌+◌, ◌^◌, ℤ, pos, ◌+ℤ◌, ◌*ℤ◌, ap, subst, sym}
use Rattle.std.specs.Prelude.{IfSome, IsSome}
use Rattle.tdf_expr_state.specs.State.{cell_at}
use Rattle.tdf_fixed.specs.Overflow.{IsOfWidth}
use Rattle.tdf_fixed.specs.Quantise.{below}
use Rattle.tdf_expr_machine.proofs.plain.inner_step.Goals as goal

pub returns-clause-value : goal.returns-clause-value
returns-clause-value c =
    let g = c.args.inner.now in
    let cells = c.args.cells.now.cells in
    let both : c.rows_product-both.result ≡ cell_at cells (g.first + c.args.turn) *ℤ cell_at cells (g.second + c.args.turn) = search rules in
    let moved : c.multiple_in.result ≡ c.args.sum *ℤ pos (2 ^ g.lift) = search rules in
    let cut : IfSome c.cut_by.result (λ n. n ≡ below (c.multiple_in.result +ℤ c.rows_product-both.result) (2 ^ g.cut.shift)) = search rules in
    subst (λ (z : ℤ). IfSome c.cut_by.result (λ n. n ≡ below z (2 ^ g.cut.shift)))
    (ap (λ z. z +ℤ c.rows_product-both.result) moved ∙ ap (λ z. c.args.sum *ℤ pos (2 ^ g.lift) +ℤ z) both)
    cut

pub returns-clause-found : goal.returns-clause-found
returns-clause-found c range =
    let g = c.args.inner.now in
    let cells = c.args.cells.now.cells in
    let both : c.rows_product-both.result ≡ cell_at cells (g.first + c.args.turn) *ℤ cell_at cells (g.second + c.args.turn) = search rules in
    let moved : c.multiple_in.result ≡ c.args.sum *ℤ pos (2 ^ g.lift) = search rules in
    let found : IsOfWidth g.cut.signed g.cut.wl (below (c.multiple_in.result +ℤ c.rows_product-both.result) (2 ^ g.cut.shift)) → IsSome c.cut_by.result = search rules in
    found (subst (λ (z : ℤ). IsOfWidth g.cut.signed g.cut.wl (below z (2 ^ g.cut.shift)))
    (sym (ap (λ z. z +ℤ c.rows_product-both.result) moved ∙ ap (λ z. c.args.sum *ℤ pos (2 ^ g.lift) +ℤ z) both)) range)
