use Rattle.std.proofs.Common.{◌≡◌, ◌≢◌, length, rules}
use Rattle.tdf_stim_lines.proofs.Statements.{body_none, body_some}
use Rattle.tdf_stim_lines.proofs.stmts.number_body.Goals as goal

pub returns-then-is_empty : goal.returns-then-is_empty
returns-then-is_empty c =
    let none : length c.args.body.now.list.items ≡ 0 = search rules in
    body_none c.args.at c.args.body.now.end c.args.body.now.list none

pub returns : goal.returns
returns c =
    let some : length c.args.body.now.list.items ≢ 0 = search rules in
    body_some c.args.at c.number_stmts-end.result c.args.body.now.end c.args.body.now.list.items c.number_stmts-end.new.list.items some c.number_stmts-end.ensures
