use Rattle.std.proofs.Common.{arith, map}
use Rattle.tdf_lang_tree.specs.Views.{pure_de, pure_de_line, pure_process}
use Rattle.tdf_stim_lines.proofs.BlockWalks.{de_walks}
use Rattle.tdf_stim_lines.proofs.blocks.number_de.Goals as goal

pub returns : goal.returns
returns c = de_walks c.args.at c.saturating_add.result c.number_de_lines-processes.result c.number_processes-end.result c.saturating_add-2.result (pure_de c.args.block.now)
    (map pure_de_line c.number_de_lines-processes.new.list.items) (map pure_process c.number_processes-end.new.list.items) (omega arith)
    c.saturating_add.ensures c.number_de_lines-processes.ensures c.number_processes-end.ensures (omega arith) c.saturating_add-2.ensures
