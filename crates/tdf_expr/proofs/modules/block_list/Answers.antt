use Rattle.std.proofs.Common.{arith, ◌≤◌, ◌<◌, List, length, subst, sym}
use Rattle.std.proofs.Math.ListN.{take}
use Rattle.std.proofs.lemmas.List.{length-map}
use Rattle.std.specs.Prelude.{map}
use Rattle.tdf_expr.proofs.Listed.{global_at, blocks_take, blocks_whole}
use Rattle.tdf_expr.proofs.modules.block_list.Goals as goal
use Rattle.tdf_expr.specs.Blocks.{PureBlock, blocks_of}
use Rattle.tdf_expr.specs.Compiled.{AreBlocksOf}
use Rattle.tdf_lang_tree.specs.Views.{pure_global}

pub push_block-requires : goal.push_block-requires
push_block-requires c =
    let within : c.loop-place.place < length c.args.list.now.items = omega (arith, c.loop-place-test.true) in
    c.requires.fine c.loop-place.place (pure_global c.index.result.now) (global_at c.args.list.now.items c.loop-place.place c.index.result.now within c.index.ensures)

pub loop-place-preserved : goal.loop-place-preserved
loop-place-preserved c =
    let within : c.loop-place.place < length c.args.list.now.items = omega (arith, c.loop-place-test.true) in
    let at = global_at c.args.list.now.items c.loop-place.place c.index.result.now within c.index.ensures in
    subst (λ (ps : List PureBlock). AreBlocksOf c.args.globals.now ps c.push_block.new.blocks.items)
    (sym (blocks_take (map pure_global c.args.list.now.items) c.loop-place.place (pure_global c.index.result.now) at))
    (c.in_ok-push_block.ensures (blocks_of (take c.loop-place.place (map pure_global c.args.list.now.items))) c.loop-place.invariant)

pub returns : goal.returns
returns c =
    let past : length (map pure_global c.args.list.now.items) ≤ c.loop-place.place = omega (arith, c.loop-place-test.false, length-map c.args.list.now.items pure_global) in
    subst (λ (ps : List PureBlock). AreBlocksOf c.args.globals.now ps c.loop-place.blocks.items)
    (blocks_whole (map pure_global c.args.list.now.items) c.loop-place.place past) c.loop-place.invariant
