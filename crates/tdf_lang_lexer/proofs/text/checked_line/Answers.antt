use Rattle.std.proofs.Common.{◌≡◌, ◌∙◌, ◌<◌, ◌+◌, true, length, take, drop, get_or, ap, subst, arith}
use Rattle.std.specs.List.{prefix_len}
use Rattle.tdf_lang_lexer.specs.Text.{is_line_end}
use Rattle.tdf_lang_lexer.specs.machine.Texts.{is_printable}
use Rattle.tdf_lang_lexer.proofs.PrintableLaws.{ended, printable-fault, printable-after}
use Rattle.tdf_lang_lexer.proofs.text.checked_line.Goals as goal
use Rattle.tdf_lang_lexer.proofs.text.checked_line.Goals.{else-end-text-via-then-end-text+else-text-end-ne10, else-end-text-via-else-end-text}

pub returns-clause-fault : goal.returns-clause-fault
returns-clause-fault c =
    let at = c.printable_len-end.ensures in
    let ends : prefix_len is_printable c.args.text.now < length c.args.text.now
    → is_line_end (get_or c.args.text.now (prefix_len is_printable c.args.text.now) 0) ≡ true
    = λ l. elim c.else-end-text.branch [ else-end-text-via-then-end-text+else-text-end-ne10 w ↦ ended (subst (λ n. get_or c.args.text.now n 0 ≡ 10) at (omega (arith, w.if-text-end-ne10.false))) | else-end-text-via-else-end-text w ↦ absurd (omega (arith, l, at, w.if-end-text.false)) ] in
    c.length_fault.ensures
    ∙ printable-fault c.args.number c.args.text.now c.cut_at.result.0.now ends (c.cut_at.ensures.before ∙ ap (λ n. take n c.args.text.now) at)

pub returns-clause-rest : goal.returns-clause-rest
returns-clause-rest c =
    let at = c.printable_len-end.ensures in
    let ends : prefix_len is_printable c.args.text.now < length c.args.text.now
    → is_line_end (get_or c.args.text.now (prefix_len is_printable c.args.text.now) 0) ≡ true
    = λ l. elim c.else-end-text.branch [ else-end-text-via-then-end-text+else-text-end-ne10 w ↦ ended (subst (λ n. get_or c.args.text.now n 0 ≡ 10) at (omega (arith, w.if-text-end-ne10.false))) | else-end-text-via-else-end-text w ↦ absurd (omega (arith, l, at, w.if-end-text.false)) ] in
    printable-after c.args.text.now c.cut_at.result.1.now ends (c.cut_at.ensures.after ∙ ap (λ n. drop (n + 1) c.args.text.now) at)
