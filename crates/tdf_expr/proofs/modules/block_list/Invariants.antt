use Rattle.std.specs.Prelude.{map}
use Rattle.std.proofs.Math.ListN.{take}
use Rattle.tdf_expr.specs.Blocks.{blocks_of}
use Rattle.tdf_expr.specs.Compiled.{AreBlocksOf}
use Rattle.tdf_expr.proofs.modules.block_list.Given as goal
use Rattle.tdf_lang_tree.specs.Views.{pure_global}

abbrev pub invariant-loop-place : goal.invariant-loop-place
invariant-loop-place l = AreBlocksOf l.globals (blocks_of (take l.place (map pure_global l.list.items))) l.blocks.items
