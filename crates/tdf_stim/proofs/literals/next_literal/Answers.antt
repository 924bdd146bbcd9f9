use Rattle.std.proofs.Common.{◌≡◌, ◌<◌, ◌∙◌, ap, length, rules, sym}
use Rattle.std.proofs.lemmas.Result.{IfOk-weaker}
use Rattle.tdf_stim.proofs.Cells.{above_last, above_nil}
use Rattle.tdf_stim.specs.Driver.{cell_literal}
use Rattle.tdf_stim.proofs.literals.next_literal.Goals as goal

pub returns-then-column-eq0 : goal.returns-then-column-eq0
returns-then-column-eq0 c =
    let none : length c.args.column.now ≡ 0 = search rules in
    IfOk-weaker c.literal.result _ _ (λ l h. h ∙ ap (λ x. cell_literal x c.args.cell.now) (sym (above_nil c.args.start.now c.args.column.now none))) c.literal.ensures

pub returns : goal.returns
returns c =
    let some : 0 < length c.args.column.now = search rules in
    IfOk-weaker c.literal-2.result _ _ (λ l h. h ∙ ap (λ x. cell_literal x c.args.cell.now) (c.index-column-column.is ∙ sym (above_last c.args.start.now c.args.column.now c.index-column-column.result some))) c.literal-2.ensures
