-- What is due next in all that runs is due next in the history.
use Rattle.std.proofs.Common.{◌≡◌, ◌∙◌, ◌||◌, ◌&&◌, ℕ, zero, suc, ◌+◌, ◌<◌, ◌≤◌, Bool, true, false, not, List, [], ◌∷◌, Option, Some, None, length, nat_eq, slice_get, inl, inr, refl, sym, ap, subst, arith}
use Rattle.std.proofs.lemmas.Bool.{cases_lt, eq-eqb, ne_eqb}
use Rattle.std.proofs.lemmas.Option.{slice_get_past, slice_get_within}
use Rattle.std.specs.List.{list_any}
use Rattle.tdf_sim_instants.specs.Engine.{IsEngineOf, IsReadyAt}
use Rattle.tdf_sim_instants.specs.InstantLaws.{IsNow}
use Rattle.tdf_sim_instants.specs.Times.{IsDueTime, IsNextDue, IsClusterRunning, due_offset, due_time}
use Rattle.tdf_sim_instants.specs.declared.engine.Engine.{Engine}
use Rattle.tdf_events_queue.specs.Times.{pending_time}
use Rattle.tdf_events.specs.Delta.{is_due as due_at, is_idle}
use Rattle.tdf_events.specs.Kernel.{side_of}
use Rattle.tdf_events.specs.Side.{SideOf}
use Rattle.tdf_sim_instants.specs.Below.{ClusterOf, IsAt, next_offset, offset_in}
use Rattle.tdf_bind.specs.declared.model.Flat.{Flat}
use Rattle.tdf_streams.proofs.Api.{get_inside, some_same}
use Rattle.tdf_sim_history.specs.Instant.{is_cluster_due, is_due, is_entry_due, next_entry}
use Rattle.tdf_sim_history.specs.World.{ClusterAt, World}
use Rattle.tdf_sim_history.specs.TurnLaws.{IsNextTime}
use Rattle.tdf_sim_instants.proofs.Api.{true_false}
use Rattle.tdf_lang_tree.specs.Pure.{PureTree}
use Rattle.tdf_sim_history.specs.Rules.{is_side_due, rules_of, world_engine}

-- a cluster is due exactly at the time of what is next due in it
entry_or_end : (h : ClusterAt) (c : ClusterOf) → h.place ≤ length h.entries → c.entries ≡ h.entries → c.place ≡ h.place → c.period ≡ h.now.info.period → (time : ℕ)
    → is_cluster_due time h ≡ nat_eq time (due_time h.since c)
entry_or_end h c within entries place period time = elim (cases_lt h.place (length h.entries)) [
  | inl inside ↦ (
      let x = get_inside h.entries h.place inside in
      let next : next_offset c ≡ Some x.0.offset = ap offset_in (ap (λ l. slice_get l c.place) entries ∙ ap (slice_get h.entries) place ∙ x.1) in
      ap (λ b. (b && nat_eq time (h.since + h.now.info.period)) || is_entry_due time h (next_entry h)) (ne_eqb h.place (length h.entries) (λ e. omega (arith, inside, e)))
      ∙ ap (is_entry_due time h) x.1
      ∙ sym (ap (λ o. nat_eq time (h.since + due_offset c o)) next))
  | inr past ↦ (
      let none : slice_get h.entries h.place ≡ None = slice_get_past h.entries h.place past in
      let next : next_offset c ≡ None = ap offset_in (ap (λ l. slice_get l c.place) entries ∙ ap (slice_get h.entries) place ∙ none) in
      ap (λ b. (b && nat_eq time (h.since + h.now.info.period)) || is_entry_due time h (next_entry h)) (eq-eqb h.place (length h.entries) (omega (arith, within, past)))
      ∙ ap (λ o. nat_eq time (h.since + h.now.info.period) || is_entry_due time h o) none
      ∙ or_false (nat_eq time (h.since + h.now.info.period))
      ∙ ap (λ p. nat_eq time (h.since + p)) (sym period)
      ∙ sym (ap (λ o. nat_eq time (h.since + due_offset c o)) next))
]
  where
    or_false : (b : Bool) → (b || false) ≡ b
    or_false true = refl
    or_false false = refl

-- nothing pending for a time or later is due before it
none_due_below : (t time : ℕ) (times : List (Option ℕ)) → t < time → ((event pending : ℕ) → pending_time times event ≡ Some pending → time ≤ pending) → list_any (due_at t) times ≡ false
none_due_below t time [] less low = refl
none_due_below t time (p ∷ ps) less low = ap (λ b. b || list_any (due_at t) ps) (one p (λ k at. low 0 k at)) ∙ none_due_below t time ps less (λ event pending at. low (suc event) pending at)
  where
    one : (o : Option ℕ) → ((k : ℕ) → o ≡ Some k → time ≤ k) → due_at t o ≡ false
    one None later = refl
    one (Some k) later = ne_eqb k t (λ same. (let l = later k refl in omega (arith, l, less, same)))

or_is : (a b : Bool) → a ≡ false → b ≡ false → (a || b) ≡ false
or_is a b x y = ap (λ c. c || b) x ∙ y

none_any : {X : Type 0} (p : X → Bool) (xs : List X) → ((n : ℕ) (x : X) → slice_get xs n ≡ Some x → p x ≡ false) → list_any p xs ≡ false
none_any p [] none = refl
none_any p (x ∷ xs) none = or_is (p x) (list_any p xs) (none 0 x refl) (none_any p xs (λ n y at. none (suc n) y at))

or_left : (a b : Bool) → a ≡ true → (a || b) ≡ true
or_left a b x = ap (λ c. c || b) x

or_right : (a b : Bool) → b ≡ true → (a || b) ≡ true
or_right true b x = refl
or_right false b x = x

some_any : {X : Type 0} (p : X → Bool) (xs : List X) (n : ℕ) (x : X) → slice_get xs n ≡ Some x → p x ≡ true → list_any p xs ≡ true
some_any p [] n x at is = absurd cc
some_any p (y ∷ ys) zero x at is = or_left (p y) (list_any p ys) (ap p (some_same y x at) ∙ is)
some_any p (y ∷ ys) (suc n) x at is = or_right (p y) (list_any p ys) (some_any p ys n x at is)

module _ (model : PureTree) (flat : Flat) (w : World SideOf) (e : Engine) (left : ℕ) (of : IsEngineOf flat e) (now : IsNow model flat w e left) where
  -- a cluster of the history, with the one that runs and the start of its period
  running : (n : ℕ) (h : ClusterAt) → slice_get w.clusters n ≡ Some h → (c : ClusterOf) × IsClusterRunning e.clusters.items e.since.items n h.since c × IsAt model flat (n + 1) h c
  running n h h_at =
      let i = slice_get_within w.clusters n h h_at in
      let s = now.at.same in
      let l = of.since in
      let c = get_inside e.clusters.items n (omega (arith, i, s)) in
      let t = get_inside e.since.items n (omega (arith, i, s, l)) in
      (c.0, record { cluster = c.1; begun = t.1 ∙ ap Some (now.at.begun n t.0 h h_at t.1) }, now.at.each n h c.0 h_at c.1)

  due_by : (n : ℕ) (h : ClusterAt) (c : ClusterOf) → IsAt model flat (n + 1) h c → (time : ℕ) → is_cluster_due time h ≡ nat_eq time (due_time h.since c)
  due_by n h c at time =
      let w2 = at.of.within in let p = at.place_is in let l = ap length at.entries_are in
      entry_or_end h c (omega (arith, w2, p, l)) at.entries_are at.place_is at.time_is time

  module _ (from stop time : ℕ) (ready : IsReadyAt from e) (next : IsNextDue e.clusters.items e.since.items (side_of e.kernel) stop time) where
    none_cluster : (t : ℕ) → t < time → list_any (is_cluster_due t) w.clusters ≡ false
    none_cluster t less = none_any (is_cluster_due t) w.clusters (λ n h h_at. (
        let r = running n h h_at in
        let low = next.each n h.since r.0 r.1 in
        due_by n h r.0 r.2 t ∙ ne_eqb t (due_time h.since r.0) (λ same. omega (arith, low, less, same))))

    none_side : (t : ℕ) → t < time → is_side_due w.events t ≡ false
    none_side t less = subst (λ s. is_side_due s t ≡ false) now.side (or_is (not (is_idle (side_of e.kernel))) (list_any (due_at t) (side_of e.kernel).notices.times)
        (ap not (next.before.idle (omega (arith, less))))
        (none_due_below t time (side_of e.kernel).notices.times less (λ event pending at. next.before.none.none event pending at)))

    pub none_before : (t : ℕ) → from ≤ t → t < time → is_due (rules_of model flat) w t ≡ false
    none_before t low less = or_is (list_any (is_cluster_due t) w.clusters) (is_side_due w.events t) (none_cluster t less) (none_side t less)

    due_in : IsDueTime e.clusters.items e.since.items time → list_any (is_cluster_due time) w.clusters ≡ true
    due_in due =
        let i = slice_get_within e.clusters.items due.number due.cluster due.running.cluster in
        let s = now.at.same in
        let h = get_inside w.clusters due.number (omega (arith, i, s)) in
        some_any (is_cluster_due time) w.clusters due.number h.0 h.1
        (due_by due.number h.0 due.cluster (now.at.each due.number h.0 due.cluster h.1 due.running.cluster) time
        ∙ ap (λ k. nat_eq time (due_time k due.cluster)) (sym (now.at.begun due.number due.start h.0 h.1 due.running.begun))
        ∙ eq-eqb time (due_time due.start due.cluster) (sym due.due))

    pub due_at_next : time < stop → is_due (rules_of model flat) w time ≡ true
    due_at_next less = elim (next.due less) [
      | inl due ↦ or_left (list_any (is_cluster_due time) w.clusters) (is_side_due w.events time) (due_in due)
      | inr due ↦ or_right (list_any (is_cluster_due time) w.clusters) (is_side_due w.events time) (subst (λ s. is_side_due s time ≡ true) now.side due)
    ]

    from_low : from ≤ stop → from ≤ time
    from_low within = elim (cases_lt time stop) [
      | inl less ↦ (elim (next.due less) [
        | inl due ↦ (let r = ready.clusters due.number due.start due.cluster due.running.cluster due.running.begun in let d = due.due in omega (arith, r, d))
        | inr due ↦ side_low less due
      ])
      | inr over ↦ (let w2 = next.within in omega (arith, w2, over, within))
    ]
      where
        side_low : time < stop → is_side_due (side_of e.kernel) time ≡ true → from ≤ time
        side_low less due = elim (cases_lt time from) [
          | inl early ↦ absurd (true_false (sym due ∙ or_is (not (is_idle (side_of e.kernel))) (list_any (due_at time) (side_of e.kernel).notices.times)
              (ap not (ready.side.idle (omega (arith, early))))
              (none_due_below time from (side_of e.kernel).notices.times early (λ event pending at. ready.side.none.none event pending at))))
          | inr low ↦ low
        ]

    pub next_is : from ≤ stop → IsNextTime (world_engine model flat) w from stop time
    next_is within = record {
      not_before = from_low within;
      not_after = next.within;
      none = none_before;
      due = due_at_next;
    }
