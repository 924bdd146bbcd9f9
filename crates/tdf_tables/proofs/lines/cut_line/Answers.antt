use Rattle.std.proofs.Common.{◌≤◌, length, sym}
use Rattle.std.specs.List.{position_or_len}
use Rattle.tdf_tables.specs.machine.Scan.{is_line_end}
use Rattle.tdf_tables.proofs.LineLaws.{line_cut, line_none, none_at_all}
use Rattle.tdf_tables.proofs.lines.cut_line.Goals as goal

pub returns-then-end-text-clause-cut : goal.returns-then-end-text-clause-cut
returns-then-end-text-clause-cut c = line_cut c.args.text.now c.line_len-end.result c.line_len-end.ensures.value c.if-end-text.true

pub returns-then-end-text-clause-line : goal.returns-then-end-text-clause-line
returns-then-end-text-clause-line c = line_none c.args.text.now c.line_len-end.result c.line_len-end.ensures.value

pub returns-clause-none : goal.returns-clause-none
returns-clause-none c =
    let past : length c.args.text.now ≤ position_or_len is_line_end c.args.text.now = rw (sym c.line_len-end.ensures.value) c.if-end-text.false in
    λ _. none_at_all is_line_end c.args.text.now past
