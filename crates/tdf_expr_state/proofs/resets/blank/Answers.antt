use Rattle.std.proofs.Common.{◌≡◌, ◌∙◌, ap, sym, arith}
use Rattle.tdf_expr_state.proofs.Blanks.{one_zero, two_zeros}
use Rattle.tdf_expr_state.proofs.resets.blank.Goals as goal
use Rattle.tdf_expr_state.specs.Resets.{with_zeros}

pub returns-in-1 : goal.returns-in-1
returns-in-1 c =
    let one : c.args.count ≡ 1 = c.in-1.is in
    let within = c.requires in
    one_zero c.args.numbers.now.items c.args.from (omega (arith, one, within))
    ∙ ap (λ n. with_zeros c.args.from n c.args.numbers.now.items) (sym one)

pub returns-in-2 : goal.returns-in-2
returns-in-2 c =
    let two : c.args.count ≡ 2 = c.in-2.is in
    let within = c.requires in
    two_zeros c.args.numbers.now.items c.args.from (omega (arith, two, within))
    ∙ ap (λ n. with_zeros c.args.from n c.args.numbers.now.items) (sym two)
