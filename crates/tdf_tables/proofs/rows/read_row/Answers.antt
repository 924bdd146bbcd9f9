use Rattle.std.proofs.Common.{sym, ◌∙◌}
use Rattle.tdf_tables.proofs.RowLaws.{row_is, row_joined, not_cells, first_is}
use Rattle.tdf_tables.proofs.rows.read_row.Goals as goal

pub returns-then-not-are_cells-clause-none : goal.returns-then-not-are_cells-clause-none
returns-then-not-are_cells-clause-none c = λ _ row h e.
    not_cells c.args.columns c.args.line.now c.cut_space.result.1.now row h e c.cut_space.ensures.rest (sym c.are_cells.ensures ∙ c.if-not-are_cells.true)

pub returns-in-Some-clause-row : goal.returns-in-Some-clause-row
returns-in-Some-clause-row c = row_is c.args.columns c.cut_space.result.1.now c.in-Some.time c.in-Some.ensures.some (sym c.are_cells.ensures ∙ c.if-not-are_cells.false)

pub returns-in-Some-clause-is : goal.returns-in-Some-clause-is
returns-in-Some-clause-is c = row_joined c.args.columns c.args.line.now c.cut_space.result.0.now c.cut_space.result.1.now c.in-Some.time
    c.cut_space.ensures.word c.cut_space.ensures.rest c.in-Some.ensures.is (sym c.are_cells.ensures ∙ c.if-not-are_cells.false)

pub returns-in-None-clause-none : goal.returns-in-None-clause-none
returns-in-None-clause-none c = λ _ row h e. c.read_seconds.ensures.none c.in-None.is row.time h.early
    (first_is c.args.columns c.args.line.now c.cut_space.result.0.now row h e c.cut_space.ensures.word)
