use Rattle.std.proofs.Common.{arith, length}
use Rattle.tdf_lang_tree.specs.Views.{pure_body, pure_stmts}
use Rattle.tdf_stim_lines.proofs.BlockWalks.{beginning_none, beginning_some, both_none, one_some}
use Rattle.tdf_stim_lines.proofs.Statements.{done_none, none_done}
use Rattle.tdf_stim_lines.proofs.blocks.number_initialize.Goals as goal

pub returns-then-is_unbegun : goal.returns-then-is_unbegun
returns-then-is_unbegun c =
    let initials = c.args.initials.now.items in
    let list = c.args.body.now.list.items in
    let none = both_none c.is_unbegun.result (length initials) (length list) c.is_unbegun.ensures c.if-is_unbegun.true in
    beginning_none c.args.at c.args.body.now.end initials (pure_stmts list) none.0 (none_done list none.1)

pub returns : goal.returns
returns c =
    let initials = c.args.initials.now.items in
    let list = c.args.body.now.list.items in
    beginning_some c.args.at c.saturating_add.result c.number_initials-first.result c.number_body-end.result c.saturating_add-2.result
    initials c.number_initials-first.new.list.items (pure_body c.args.body.now) (pure_body c.number_body-end.new.body)
    (λ none done. one_some c.is_unbegun.result (length initials) (length list) c.is_unbegun.ensures c.if-is_unbegun.false none (done_none list done))
    (omega arith) c.saturating_add.ensures c.number_initials-first.ensures c.number_body-end.ensures (omega arith) c.saturating_add-2.ensures
