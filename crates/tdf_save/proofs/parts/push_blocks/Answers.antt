use Rattle.std.proofs.Common.{map, ℤ, Vec, Global, ◌++◌, ◌∙◌, ap}
use Rattle.tdf_save.specs.Text.{saved_block}
use Rattle.tdf_save.proofs.Each.{each_begins, each_one_more, each_done, at_map, min_second}
use Rattle.tdf_save.proofs.parts.push_blocks.Goals as goal

pub loop-k-init : goal.loop-k-init
loop-k-init c = each_begins saved_block c.args.out.now.items c.args.members.now (map (λ (z : Vec ℤ Global). z.items) c.args.lists.now)

pub loop-k-preserved : goal.loop-k-preserved
loop-k-preserved c =
    each_one_more saved_block c.args.out.now.items c.loop-k.out.items c.push_block.new.out.items c.args.members.now (map (λ (z : Vec ℤ Global). z.items) c.args.lists.now) c.min-k-end.result c.loop-k.k c.index-members-k.result c.index-lists-k.result.items
    (min_second (λ (z : Vec ℤ Global). z.items) c.args.members.now c.args.lists.now c.min-k-end.result c.min-k-end.ensures) c.loop-k-test.true c.index-members-k.is (at_map (λ (z : Vec ℤ Global). z.items) c.args.lists.now c.loop-k.k c.index-lists-k.result c.index-lists-k.is) c.loop-k.invariant (c.in_ok-push_block.ensures.ok ∙ ap (λ x. c.loop-k.out.items ++ saved_block c.index-members-k.result x) c.deref.ensures.value)

pub returns-clause-ok : goal.returns-clause-ok
returns-clause-ok c = each_done saved_block c.args.out.now.items c.loop-k.out.items c.args.members.now (map (λ (z : Vec ℤ Global). z.items) c.args.lists.now) c.min-k-end.result c.loop-k.k (min_second (λ (z : Vec ℤ Global). z.items) c.args.members.now c.args.lists.now c.min-k-end.result c.min-k-end.ensures) c.loop-k-test.false c.loop-k.invariant
