use Rattle.std.proofs.Common.{map, ℕ, pos, Vec, Global, get_or, ◌++◌, ◌∙◌, ap}
use Rattle.tdf_save.specs.Text.{saved_value}
use Rattle.tdf_save.proofs.Each.{each_begins, each_one_more, each_done, at_map, below_both, min_first, same_there}
use Rattle.tdf_save.proofs.parts.push_values.Goals as goal

pub loop-k-init : goal.loop-k-init
loop-k-init c = each_begins saved_value c.args.out.now.items (map (λ (z : Vec ℕ Global). z.items) c.args.paths.now) c.args.nums.now

pub loop-k-preserved : goal.loop-k-preserved
loop-k-preserved c =
    each_one_more saved_value c.args.out.now.items c.loop-k.out.items c.push_value.new.out.items (map (λ (z : Vec ℕ Global). z.items) c.args.paths.now) c.args.nums.now c.min-k-end.result c.loop-k.k c.index-paths-k.result.items (get_or c.args.nums.now c.loop-k.k (pos 0))
    (min_first (λ (z : Vec ℕ Global). z.items) c.args.paths.now c.args.nums.now c.min-k-end.result c.min-k-end.ensures) c.loop-k-test.true (at_map (λ (z : Vec ℕ Global). z.items) c.args.paths.now c.loop-k.k c.index-paths-k.result c.index-paths-k.is) (same_there c.args.nums.now c.loop-k.k (pos 0) (below_both c.args.paths.now c.args.nums.now c.min-k-end.result c.loop-k.k c.min-k-end.ensures c.loop-k-test.true).second) c.loop-k.invariant (c.in_ok-push_value.ensures.ok ∙ ap (λ x. c.loop-k.out.items ++ saved_value x (get_or c.args.nums.now c.loop-k.k (pos 0))) c.deref.ensures.value)

pub returns-clause-ok : goal.returns-clause-ok
returns-clause-ok c = each_done saved_value c.args.out.now.items c.loop-k.out.items (map (λ (z : Vec ℕ Global). z.items) c.args.paths.now) c.args.nums.now c.min-k-end.result c.loop-k.k (min_first (λ (z : Vec ℕ Global). z.items) c.args.paths.now c.args.nums.now c.min-k-end.result c.min-k-end.ensures) c.loop-k-test.false c.loop-k.invariant
