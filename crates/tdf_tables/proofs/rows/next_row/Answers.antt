use Rattle.std.proofs.Common.{sym, ◌∙◌}
use Rattle.tdf_tables.specs.Rows.{row_of}
use Rattle.tdf_tables.proofs.RowLaws.{not_next, not_row}
use Rattle.tdf_tables.proofs.rows.next_row.Goals as goal

pub returns-then-not-is_next-clause-none : goal.returns-then-not-is_next-clause-none
returns-then-not-is_next-clause-none c = λ _ row more h next e.
    not_next c.args.columns c.args.text.now c.in-Some.line.now c.in-Some.rest.now (row_of c.in-Some-read_row.row) row more c.args.before
    c.in-Some.ensures.cut c.in-Some.ensures.line c.in-Some-read_row.ensures.row c.in-Some-read_row.ensures.is
    (sym c.is_next.ensures ∙ c.if-not-is_next.true) h next e

pub returns-in-None-clause-none : goal.returns-in-None-clause-none
returns-in-None-clause-none c = λ _ row more h next e.
    c.read_row.ensures.none c.in-None.is row h
    (not_row c.args.columns c.args.text.now c.in-Some.line.now c.in-Some.rest.now row more c.in-Some.ensures.cut c.in-Some.ensures.line h e)
