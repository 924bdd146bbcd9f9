-- What there is in the history of a run is steady, also where more is told of its boundaries.
use Rattle.std.proofs.Common.{◌≡◌, ◌∙◌, ℕ, zero, suc, ◌+◌, ◌≤◌, Option, Some, None, option_map, List, [], ◌∷◌, length, slice_get, slice_index_or, refl, sym, subst, arith}
use Rattle.std.proofs.lemmas.List.Elements.{All-append, All-head, All-nil, All-tail}
use Rattle.std.proofs.lemmas.Option.{slice_get_within}
use Rattle.std.specs.List.{All}
use Rattle.tdf_sim_instants.proofs.Api.{done_known, told_get}
use Rattle.tdf_sim_instants.specs.InstantLaws.{IsNow}
use Rattle.tdf_sim_instants.specs.declared.engine.Engine.{Engine}
use Rattle.tdf_events.specs.Side.{SideOf}
use Rattle.tdf_bind.specs.declared.model.Flat.{Flat}
use Rattle.tdf_streams.proofs.Api.{get_inside, some_same}
use Rattle.tdf_sim_history.specs.Telling.{told_more, world_told}
use Rattle.tdf_sim_history.specs.World.{Change, ClusterAt, World}
use Rattle.tdf_sim_runs.specs.Ongoing.{AreTimed}
use Rattle.tdf_streams.specs.Signals.{time_of_periods}
use Rattle.tdf_lang_tree.specs.Pure.{PureTree}
use Rattle.tdf_sim_history.specs.Continuing.{HasToldCounts}
use Rattle.tdf_sim_history.specs.WorldLaws.{AreSteady, HasDone}
use Rattle.std.proofs.lemmas.List.Sums.{sum_by_push}
use Rattle.tdf_streams.specs.Periods.{PeriodRecord}
use Rattle.tdf_sim_runs.specs.Running.{AreWithin}
use Rattle.tdf_sim_history.specs.Instant.{periods_of}

module _ (model : PureTree) (flat : Flat) (w : World SideOf) (e : Engine) (left : ℕ) (now : IsNow model flat w e left) where
  -- what there is in the history is steady
  pub steady : AreSteady model flat w
  steady = record {
    each = λ n h h_at. (
        let i = slice_get_within w.clusters n h h_at in
        let s = now.at.same in
        let c = get_inside e.clusters.items n (omega (arith, i, s)) in
        let at = now.at.each n h c.0 h_at c.1 in
        let known = done_known model flat (n + 1) h c.0 at in
        record {
          records = at.records;
          plan = record {
            counts = known.counts;
            whole = at.counts;
            ahead = subst (λ (a : List Change). All HasToldCounts a) (sym at.none_ahead) (All-nil HasToldCounts);
          };
          place = known.within;
          known = known.values;
        });
  }

  -- no cluster's periods end before a mark that no period in progress ends before
  pub ends_late : AreTimed w → length e.since.items ≡ length e.clusters.items → (mark : ℕ) → AreWithin mark e
      → (n : ℕ) (h : ClusterAt) → slice_get w.clusters n ≡ Some h → mark ≤ h.origin + time_of_periods (periods_of h)
  ends_late timed same mark within n h h_at =
      let i = slice_get_within w.clusters n h h_at in
      let s = now.at.same in
      let t = get_inside e.since.items n (omega (arith, i, s, same)) in
      let c = get_inside e.clusters.items n (omega (arith, i, s)) in
      let l = within n t.0 c.0 t.1 c.1 in
      let b = now.at.begun n t.0 h h_at t.1 in
      let p = (now.at.each n h c.0 h_at c.1).time_is in
      let m = sum_by_push (λ (q : PeriodRecord). q.info.period) h.old h.now in
      let o = timed.each n h h_at in omega (arith, l, b, o, p, m)

-- what is told of a cluster has its counts where all that is told has
pub counts_of : (ahead : List (List Change)) (n : ℕ) → All (All HasToldCounts) ahead → All HasToldCounts (slice_index_or ahead n [])
counts_of [] n counts = All-nil HasToldCounts
counts_of (a ∷ ahead) zero counts = All-head (All HasToldCounts) a ahead counts
counts_of (a ∷ ahead) (suc n) counts = counts_of ahead n (All-tail (All HasToldCounts) a ahead counts)

-- a steady world stays so where plans are told with their counts
pub steady_more : (model : PureTree) (flat : Flat) (w : World SideOf) (told : List (List Change)) → All (All HasToldCounts) told → AreSteady model flat w → AreSteady model flat (world_told told w)
steady_more model flat w told counts steady = record { each = λ n c at. go n c (slice_get w.clusters n) refl (sym (told_get told n w) ∙ at) }
  where
    go : (n : ℕ) (c : ClusterAt) (o : Option ClusterAt) → slice_get w.clusters n ≡ o → option_map (told_more (slice_index_or told n [])) o ≡ Some c → HasDone model flat (n + 1) c
    go n c None there is = absurd cc
    go n c (Some b) there is = subst (HasDone model flat (n + 1)) (some_same (told_more (slice_index_or told n []) b) c is) (
        let d = steady.each n b there in
        record { records = d.records; plan = record { counts = d.plan.counts; whole = d.plan.whole; ahead = All-append HasToldCounts b.ahead (slice_index_or told n []) d.plan.ahead (counts_of told n counts) }; place = d.place; known = d.known })
