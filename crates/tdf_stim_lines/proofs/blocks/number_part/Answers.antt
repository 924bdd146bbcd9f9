use Rattle.std.proofs.Common.{◌≡◌, ◌≢◌, arith, length, rules}
use Rattle.tdf_lang_tree.specs.Views.{pure_body, pure_stmts}
use Rattle.tdf_stim_lines.proofs.BlockWalks.{part_none, part_some}
use Rattle.tdf_stim_lines.proofs.Statements.{none_done, some_done}
use Rattle.tdf_stim_lines.proofs.blocks.number_part.Goals as goal

pub returns-then-is_empty : goal.returns-then-is_empty
returns-then-is_empty c =
    let none : length c.args.body.now.list.items ≡ 0 = search rules in
    part_none c.args.at c.args.body.now.end (pure_stmts c.args.body.now.list.items) (none_done c.args.body.now.list.items none)

pub returns : goal.returns
returns c =
    let some : length c.args.body.now.list.items ≢ 0 = search rules in
    part_some c.args.at c.saturating_add.result c.number_body-end.result c.saturating_add-2.result (pure_body c.args.body.now) (pure_body c.number_body-end.new.body)
    (some_done c.args.body.now.list.items some) (omega arith) c.saturating_add.ensures c.number_body-end.ensures (omega arith) c.saturating_add-2.ensures
