use Rattle.std.proofs.Common.{map}
use Rattle.tdf_lang_tree.specs.Views.{pure_composite, pure_global, pure_trace, pure_tree}
use Rattle.tdf_stim_lines.proofs.TreeWalks.{tree_walks}
use Rattle.tdf_stim_lines.proofs.tree.number_parts.Goals as goal

pub returns : goal.returns
returns c = tree_walks c.line_after_head.result c.number_globals-top.result c.number_composite-traces.result c.number_traces.result (pure_tree c.args.tree.now)
    (map pure_global c.number_globals-top.new.list.items) (pure_composite c.number_composite-traces.new.block) (map pure_trace c.number_traces.new.list.items)
    c.line_after_head.ensures c.number_globals-top.ensures c.number_composite-traces.ensures c.number_traces.ensures
