use Rattle.std.proofs.Common.{arith}
use Rattle.tdf_lang_tree.specs.Views.{pure_body, pure_process}
use Rattle.tdf_stim_lines.proofs.BlockWalks.{process_walks}
use Rattle.tdf_stim_lines.proofs.blocks.number_process.Goals as goal

pub returns : goal.returns
returns c = process_walks c.args.at c.saturating_add.result c.number_senses-dont.result c.after_dont-first.result c.number_body-end.result c.saturating_add-2.result (pure_process c.args.process.now)
    c.number_senses-dont.new.list.items (pure_body c.number_body-end.new.body) (omega arith) c.saturating_add.ensures c.number_senses-dont.ensures
    (c.after_dont-first.ensures.later, c.after_dont-first.ensures.next) c.number_body-end.ensures (omega arith) c.saturating_add-2.ensures
