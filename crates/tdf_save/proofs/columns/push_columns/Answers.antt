use Rattle.std.proofs.Common.{map, ℕ, Vec, Global, ◌++◌, ◌∙◌, ap}
use Rattle.tdf_save.specs.Text.{saved_column}
use Rattle.tdf_save.proofs.Each.{each_begins, each_one_more, each_done, at_map, min_first}
use Rattle.tdf_save.proofs.columns.push_columns.Goals as goal

pub loop-k-init : goal.loop-k-init
loop-k-init c = each_begins saved_column c.args.out.now.items (map (λ (z : Vec ℕ Global). z.items) c.args.labels.now) c.args.states.now

pub loop-k-preserved : goal.loop-k-preserved
loop-k-preserved c =
    each_one_more saved_column c.args.out.now.items c.loop-k.out.items c.push_column.new.out.items (map (λ (z : Vec ℕ Global). z.items) c.args.labels.now) c.args.states.now c.min-k-end.result c.loop-k.k c.index-labels-k.result.items c.index-states-k.result
    (min_first (λ (z : Vec ℕ Global). z.items) c.args.labels.now c.args.states.now c.min-k-end.result c.min-k-end.ensures) c.loop-k-test.true (at_map (λ (z : Vec ℕ Global). z.items) c.args.labels.now c.loop-k.k c.index-labels-k.result c.index-labels-k.is) c.index-states-k.is c.loop-k.invariant (c.in_ok-push_column.ensures.ok ∙ ap (λ x. c.loop-k.out.items ++ saved_column x c.index-states-k.result) c.deref.ensures.value)

pub returns-clause-ok : goal.returns-clause-ok
returns-clause-ok c = each_done saved_column c.args.out.now.items c.loop-k.out.items (map (λ (z : Vec ℕ Global). z.items) c.args.labels.now) c.args.states.now c.min-k-end.result c.loop-k.k (min_first (λ (z : Vec ℕ Global). z.items) c.args.labels.now c.args.states.now c.min-k-end.result c.min-k-end.ensures) c.loop-k-test.false c.loop-k.invariant
