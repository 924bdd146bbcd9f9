use Rattle.std.proofs.Common.{◌∙◌, sym, ap}
use Rattle.std.specs.Option.{option_map}
use Rattle.tdf_tables.proofs.HeadLaws.{no_labels, no_part, read_is, read_labels}
use Rattle.tdf_tables.proofs.heads.read_head.Goals as goal

pub returns-in_default-label_part-clause-none : goal.returns-in_default-label_part-clause-none
returns-in_default-label_part-clause-none c = λ _. no_part c.args.text.now c.in-Some.line.now c.in-Some.rest.now c.in-Some.ensures.cut c.in-Some.ensures.line
    (sym c.label_part.ensures ∙ ap (option_map (λ labels. labels.now)) c.in_default-label_part.is)

pub returns-then-not-branch-clause-none : goal.returns-then-not-branch-clause-none
returns-then-not-branch-clause-none c = λ _. no_labels c.args.text.now c.in-Some.line.now c.in-Some.rest.now c.in-Some-label_part.labels.now
    c.in-Some.ensures.cut c.in-Some.ensures.line (sym c.in-Some-label_part.ensures) (sym c.in_ok-are_labels.ensures ∙ c.if-not-branch.true)

pub returns-clause-labels : goal.returns-clause-labels
returns-clause-labels c = read_labels c.in-Some.line.now c.in-Some-label_part.labels.now (sym c.in-Some-label_part.ensures)
    (sym c.in_ok-are_labels.ensures ∙ c.if-not-branch.false)

pub returns-clause-is : goal.returns-clause-is
returns-clause-is c = read_is c.args.text.now c.in-Some.line.now c.in-Some-label_part.labels.now c.in-Some.rest.now c.in-Some.ensures.cut
    (sym c.in-Some-label_part.ensures)
