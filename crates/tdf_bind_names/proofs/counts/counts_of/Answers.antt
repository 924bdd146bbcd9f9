use Rattle.std.proofs.Common.{rules, ◌≡◌, ◌∙◌, ◌++◌, ◌∷◌, [], List, ℕ, length, subst, sym, ap}
use Rattle.tdf_bind_names.proofs.Counting.{counts_more}
use Rattle.tdf_bind_names.proofs.counts.counts_of.Goals as goal
use Rattle.tdf_bind_names.specs.machine.Counts.{counted, own_signals}
use Rattle.tdf_bind_hierarchy.specs.Blocks.{BlockOf}
use Rattle.tdf_bind_hierarchy.specs.Laws.{AreEarlier}

pub loop-block-preserved : goal.loop-block-preserved
loop-block-preserved c =
    let seen = c.block.view_is ∙ c.block-item.is in
    let count : c.len.result ≡ length c.block.inside.signals.items = search rules in
    counts_more c.loop-block.block-index c.args.signals c.args.weights.now c.deref-block-items.result.now c.loop-block.counts.items c.push.new.self.items c.block-item.result c.own_signals-start.result
    (subst AreEarlier (sym c.deref-block-items.ensures.value) c.requires) c.loop-block.invariant c.loop-block-test.true
    (c.own_signals-start.ensures.count ∙ ap (own_signals c.args.signals) (count ∙ ap (λ (b : BlockOf). length b.signals) seen))
    c.own_signals-start.ensures.small
    (c.in_ok-push.ensures.items ∙ ap (λ m. c.loop-block.counts.items ++ m ∷ [])
    (c.count_block-total.ensures ∙ ap (λ (l : List ℕ). counted l c.args.weights.now c.own_signals-start.result c.block.inside.instances.items) c.deref.ensures.value
    ∙ ap (λ (b : BlockOf). counted c.loop-block.counts.items c.args.weights.now c.own_signals-start.result b.instances) seen))
