use Rattle.std.proofs.Common.{◌≡◌, ◌≢◌, arith, length, rules}
use Rattle.tdf_stim_lines.proofs.BlockWalks.{attributes_none, attributes_some}
use Rattle.tdf_stim_lines.proofs.blocks.number_attributes.Goals as goal

pub returns-then-is_empty : goal.returns-then-is_empty
returns-then-is_empty c =
    let none : length c.args.list.now.items ≡ 0 = search rules in
    attributes_none c.args.at c.args.list.now.items none

pub returns : goal.returns
returns c =
    let some : length c.args.list.now.items ≢ 0 = search rules in
    attributes_some c.args.at c.saturating_add.result c.number_attrs-end.result c.saturating_add-2.result c.args.list.now.items c.number_attrs-end.new.list.items some (omega arith)
    c.saturating_add.ensures c.number_attrs-end.ensures (omega arith) c.saturating_add-2.ensures
