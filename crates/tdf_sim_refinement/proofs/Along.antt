-- What a cluster in progress does within the turns that are left is what the history does.
use Rattle.std.proofs.Common.{◌≡◌, ◌∙◌, ℕ, ◌+◌, ◌-◌, ◌≤◌, ◌++◌, Some, List, [], set, slice_get, refl, sym, ap, subst}
use Rattle.tdf_convert.specs.Outputs.{OutputsOf}
use Rattle.tdf_convert.specs.Sampled.{AreByOffset}
use Rattle.tdf_exec.specs.Cluster.{ClusterOf, due_count, due_from, next_offset}
use Rattle.tdf_expr.specs.Checked.{IsCheckedOf}
use Rattle.tdf_fixed.specs.declared.raw.Raw.{Raw}
use Rattle.tdf_bind.specs.Flat.{IsFlatOf}
use Rattle.tdf_bind.specs.declared.model.Flat.{Flat}
use Rattle.tdf_sim_history.specs.Instant.{all_firings}
use Rattle.tdf_sim_history.specs.World.{ClusterAt, Rules, SinkWrite, World}
use Rattle.tdf_sim_history.specs.History.{Going, Past}
use Rattle.tdf_bind_invariants.specs.Limits.{AreWithinLimits}
use Rattle.tdf_sim_refinement.proofs.Arriving.{firings_keep_at, in_plan, not_late}
use Rattle.tdf_sim_refinement.proofs.Due.{due_counted}
use Rattle.tdf_sim_refinement.proofs.Firings.{due_fire, few_end}
use Rattle.tdf_sim_refinement.proofs.Taking.{sinks_take_one}
use Rattle.tdf_sim_refinement.proofs.Writing.{sinks_write}
use Rattle.tdf_sim_refinement.specs.At.{AreSettled, IsAt}
use Rattle.tdf_sim_refinement.specs.Fired.{HasFired, HasTooFew}
use Rattle.tdf_sim_refinement.specs.Firings.{AreDueNext, after_firings, settled_values, world_after, writes_after}
use Rattle.tdf_sim_refinement.specs.Laws.{FiredGoesAlong, GoesAlong, TooFewIsSpent}
use Rattle.tdf_lang_tree.specs.Pure.{PureTree}

-- the entries that are due, as the cluster counts them
pub due_here : (model : PureTree) (flat : Flat) (number time : ℕ) (h : ClusterAt) (c : ClusterOf) → IsAt model flat number h c → AreByOffset c.entries → h.since ≤ time
    → next_offset c ≡ Some (time - h.since) → AreDueNext time (due_count c (time - h.since)) h
due_here model flat number time h c at sorted begun next =
    let sorted_h = subst AreByOffset at.entries_are sorted in
    let late = not_late model flat number time [] h c c [] at begun next in
    let due = due_counted time h sorted_h (in_plan model flat number time [] h c c [] at begun) late in
    let same = ap (λ p. due_from p (time - h.since) h.entries) (sym at.place_is) ∙ ap (λ l. due_from c.place (time - h.since) l) (sym at.entries_are) in
    subst (λ k. AreDueNext time k h) same due

module _ {K : Type 0} (model : PureTree) (flat : Flat) (rules : Rules K) (time n : ℕ) (h : ClusterAt) (w : World K) (c d : ClusterOf) (before after : OutputsOf) (rest : ℕ)
    (here : slice_get w.clusters n ≡ Some h) (at : IsAt model flat (n + 1) h c) (sorted : AreByOffset c.entries) (begun : h.since ≤ time) (next : next_offset c ≡ Some (time - h.since)) where
  pub goes_along : (inputs : List Raw) → IsCheckedOf model flat.checked → IsFlatOf model flat → AreWithinLimits flat → AreSettled flat.tables (settled_values rules w) (time - h.since) c inputs
      → (fired : HasFired flat (time - h.since) inputs c d before after w.left rest) → GoesAlong model flat rules time n h w d fired.gained.sent rest
  goes_along inputs checked is limits settled fired =
      let k = due_count c (time - h.since) in
      let all = due_fire model flat rules time n h w here k (due_here model flat (n + 1) time h c at sorted begun next) fired.enough in
      let wrote = sinks_write model flat (n + 1) time (settled_values rules w) h c d inputs before after checked at sorted (sinks_take_one model flat (n + 1) h c is limits at) begun next settled fired.done fired.gained in
      record {
        after = after_firings flat.tables (settled_values rules w) h (due_count c (time - h.since));
        at = firings_keep_at model flat (n + 1) time (settled_values rules w) h c d inputs checked at sorted begun next settled fired.of fired.done fired.stands;
        since_is = refl;
        goes = all
            ∙ ap (λ (l : ℕ). Going (record w {
              clusters = set w.clusters n (after_firings flat.tables (settled_values rules w) h (due_count c (time - h.since)));
              left = l;
              written = w.written ++ writes_after model flat (settled_values rules w) (n + 1) h (due_count c (time - h.since));
            })) (sym fired.turns)
            ∙ ap (λ (l : List SinkWrite). Going (record w {
              clusters = set w.clusters n (after_firings flat.tables (settled_values rules w) h (due_count c (time - h.since)));
              left = rest;
              written = w.written ++ l;
            })) wrote;
      }

  pub is_spent : HasTooFew (time - h.since) c d before after w.left rest → all_firings model flat rules time n w ≡ Past (world_after model flat rules n h w w.left)
  is_spent few = few_end model flat rules time n h w here (due_count c (time - h.since)) (due_here model flat (n + 1) time h c at sorted begun next) few.few

pub fired_goes_along : FiredGoesAlong
fired_goes_along model flat rules time n h w c d inputs before after rest checked is limits here at sorted begun next settled fired =
    goes_along model flat rules time n h w c d before after rest here at sorted begun next inputs checked is limits settled fired

pub few_is_spent : TooFewIsSpent
few_is_spent model flat rules time n h w c d before after rest here at sorted begun next few = is_spent model flat rules time n h w c d before after rest here at sorted begun next few
