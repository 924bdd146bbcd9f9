use Rattle.std.proofs.Common.{rules, ◌≡◌, ◌∙◌, ◌-◌, List, ℕ, Bool, length, nat_lt, ap, subst}
use Rattle.std.specs.Prelude.{slice_index}
use Rattle.tdf_bind_names.proofs.Counting.{past_is}
use Rattle.tdf_bind_names.proofs.counts.is_past.Goals as goal
use Rattle.tdf_bind_names.specs.Counts.{limit_of}
use Rattle.tdf_bind_names.specs.machine.Counts.{AreCounts}
use Rattle.tdf_lang_tree.specs.Views.{pure_tree}

pub returns : goal.returns
returns c =
    let blocks = c.args.blocks.now.items in
    let counts = c.in_ok-counts.counts.items in
    let weights = c.deref.result.now in
    let top = c.saturating_sub-top.result in
    let last : top ≡ length blocks - 1 = search rules in
    ap (λ (l : ℕ). nat_lt l c.at.result) c.limit_of.ensures
    ∙ ap (nat_lt (limit_of c.args.measure)) (c.at.ensures ∙ ap (λ (l : List ℕ). slice_index l top) c.deref-2.ensures.value)
    ∙ past_is c.args.measure (pure_tree c.args.tree.now) blocks weights counts top (c.deref.ensures.value ∙ c.in_ok-weights.ensures) last
    (subst (λ (b : Bool). AreCounts (length blocks) b weights blocks counts) c.counts_signals.ensures c.in_ok-counts.ensures)
