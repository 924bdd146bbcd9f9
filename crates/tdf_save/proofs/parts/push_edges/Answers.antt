use Rattle.std.proofs.Common.{map, ℕ, ℤ, Vec, Global, ◌++◌, ◌∙◌, ap}
use Rattle.tdf_save.specs.Text.{saved_edge}
use Rattle.tdf_save.proofs.Each.{each_begins, each_one_more, each_done, at_map, min_mapped}
use Rattle.tdf_save.proofs.parts.push_edges.Goals as goal

pub loop-k-init : goal.loop-k-init
loop-k-init c = each_begins saved_edge c.args.out.now.items (map (λ (z : Vec ℕ Global). z.items) c.args.paths.now) (map (λ (z : Vec ℤ Global). z.items) c.args.lists.now)

pub loop-k-preserved : goal.loop-k-preserved
loop-k-preserved c =
    each_one_more saved_edge c.args.out.now.items c.loop-k.out.items c.push_edge.new.out.items (map (λ (z : Vec ℕ Global). z.items) c.args.paths.now) (map (λ (z : Vec ℤ Global). z.items) c.args.lists.now) c.min-k-end.result c.loop-k.k c.index-paths-k.result.items c.index-lists-k.result.items
    (min_mapped (λ (z : Vec ℕ Global). z.items) (λ (z : Vec ℤ Global). z.items) c.args.paths.now c.args.lists.now c.min-k-end.result c.min-k-end.ensures) c.loop-k-test.true (at_map (λ (z : Vec ℕ Global). z.items) c.args.paths.now c.loop-k.k c.index-paths-k.result c.index-paths-k.is) (at_map (λ (z : Vec ℤ Global). z.items) c.args.lists.now c.loop-k.k c.index-lists-k.result c.index-lists-k.is) c.loop-k.invariant (c.in_ok-push_edge.ensures.ok ∙ ap (λ x. c.loop-k.out.items ++ saved_edge x c.deref-in-loop-k.result.now) c.deref.ensures.value ∙ ap (λ x. c.loop-k.out.items ++ saved_edge c.index-paths-k.result.items x) c.deref-in-loop-k.ensures.value)

pub returns-clause-ok : goal.returns-clause-ok
returns-clause-ok c = each_done saved_edge c.args.out.now.items c.loop-k.out.items (map (λ (z : Vec ℕ Global). z.items) c.args.paths.now) (map (λ (z : Vec ℤ Global). z.items) c.args.lists.now) c.min-k-end.result c.loop-k.k (min_mapped (λ (z : Vec ℕ Global). z.items) (λ (z : Vec ℤ Global). z.items) c.args.paths.now c.args.lists.now c.min-k-end.result c.min-k-end.ensures) c.loop-k-test.false c.loop-k.invariant
