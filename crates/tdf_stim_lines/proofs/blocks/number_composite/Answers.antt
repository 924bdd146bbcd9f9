use Rattle.std.proofs.Common.{arith}
use Rattle.tdf_lang_tree.specs.Views.{pure_composite}
use Rattle.tdf_stim_lines.proofs.BlockWalks.{composite_walks}
use Rattle.tdf_stim_lines.proofs.blocks.number_composite.Goals as goal

pub returns : goal.returns
returns c = composite_walks c.args.at c.saturating_add.result c.number_members-end.result c.saturating_add-2.result (pure_composite c.args.block.now) c.number_members-end.new.list.items (omega arith)
    c.saturating_add.ensures c.number_members-end.ensures (omega arith) c.saturating_add-2.ensures
