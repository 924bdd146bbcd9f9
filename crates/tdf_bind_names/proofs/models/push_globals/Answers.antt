use Rattle.std.proofs.Common.{◌∙◌, [], ◌∷◌, ap, subst, sym}
use Rattle.tdf_bind_ports.specs.Ports.{known_after}
use Rattle.tdf_bind_names.proofs.Blocks.{blocks_more, known_more, known_none}
use Rattle.tdf_bind_names.proofs.models.push_globals.Goals as goal
use Rattle.tdf_bind_names.specs.Resolved.{AreBlocks}
use Rattle.tdf_bind_names.specs.machine.Lists.{list_of}
use Rattle.tdf_lang_tree.specs.Views.{pure_global}

pub loop-global-init : goal.loop-global-init
loop-global-init c = record { blocks = c.requires.none; known = c.requires.known ∙ sym known_none }

pub loop-global-preserved : goal.loop-global-preserved
loop-global-preserved c =
    let list = c.deref-global-items.result.now in
    record {
      blocks = blocks_more c.args.globals.now list c.loop-global.global-index c.global-item.result c.loop-global.known c.loop-global.out.items c.push_block.new.out.items (list_of c.in_ok-block.block)
          c.loop-global-test.true c.loop-global.invariant.blocks c.loop-global.invariant.known
          (subst (λ g. AreBlocks c.args.globals.now c.loop-global.known (pure_global g ∷ []) (list_of c.in_ok-block.block)) c.global-item.is c.in_ok-block.ensures)
          c.in_ok-push_block.ensures;
      known = c.in_ok-declare.ensures ∙ ap (λ g. known_after (pure_global g) c.loop-global.known) c.global-item.is
          ∙ known_more list c.loop-global.global-index c.global-item.result c.loop-global.known c.loop-global-test.true c.loop-global.invariant.known;
    }
