use Rattle.std.proofs.Common.{◌≡◌, ◌-◌, ◌/◌, ◌+◌, IfOk, length, take, drop, subst, arith, ap, ◌∙◌}
use Rattle.tdf_expr_machine.specs.Sequences.{IsSequence}
use Rattle.tdf_expr_machine.proofs.InOrder.{last_two}
use Rattle.tdf_expr_machine.proofs.sequences.+gather.Goals as goal

pub halves-returns-in-Ok-clause-act : goal.halves-returns-in-Ok-clause-act
halves-returns-in-Ok-clause-act t c =
    let all = c.args.list.now.items in
    let half = c.args.count / 2 in
    let rest = take (length all - half) all in
    let parts : c.args.count - half + half ≡ c.args.count = omega arith in
    let cut = last_two all (c.args.count - half) half (omega (arith, c.requires)) ∙ ap (λ n. drop (length all - n) all) parts in
    let first : IsSequence (drop (length rest - (c.args.count - half)) rest) c.in-Ok.first = rw c.in_ok-second-in_default.ensures.rest at c.in-Ok.ensures.act in
    subst (λ l. IfOk c.both.result (λ act. IsSequence l act)) cut (c.both.ensures _ _ first c.in_ok-second-in_default.ensures.act)
