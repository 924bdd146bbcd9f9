use Rattle.std.proofs.Common.{◌∙◌, ap, sym, subst, length, List, ℕ, ◌≡◌}
use Rattle.std.proofs.lemmas.List.{length-replicate}
use Rattle.tdf_schedule.proofs.Flows.{walked_none}
use Rattle.tdf_schedule.specs.views.Bounds.{AreWalkedUpTo}
use Rattle.tdf_schedule.proofs.bounds.most_held.Goals as goal

pub walk-requires-clause-start : goal.walk-requires-clause-start
walk-requires-clause-start c =
    let long : length c.in_ok-done.done.items ≡ c.args.count = ap (λ (l : List ℕ). length l) c.in_ok-done.ensures ∙ length-replicate c.args.count 0 in
    subst (λ n. AreWalkedUpTo 0 n c.args.entries.now c.args.edges.now c.in_ok-done.done.items c.in_ok-bounds.bounds.items) (sym long)
    (walked_none c.args.count c.args.entries.now c.args.edges.now c.in_ok-done.done.items c.in_ok-bounds.bounds.items c.in_ok-done.ensures c.in_ok-bounds.ensures)

pub walk-requires-clause-inputs_long : goal.walk-requires-clause-inputs_long
walk-requires-clause-inputs_long c = c.requires.inputs_long ∙ sym (ap (λ (l : List ℕ). length l) c.in_ok-done.ensures ∙ length-replicate c.args.count 0)

pub walk-requires-clause-outputs_long : goal.walk-requires-clause-outputs_long
walk-requires-clause-outputs_long c = c.requires.outputs_long ∙ sym (ap (λ (l : List ℕ). length l) c.in_ok-done.ensures ∙ length-replicate c.args.count 0)
