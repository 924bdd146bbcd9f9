-- What is next due in a cluster, from one instant to the next.
use Rattle.std.proofs.Common.{◌≡◌, ◌⊎◌, ◌∙◌, ◌&&◌, ℕ, ◌+◌, ◌-◌, ◌<◌, ◌≤◌, true, false, List, Option, Some, None, length, nat_eq, slice_get, inl, inr, refl, sym, ap, subst, arith}
use Rattle.std.specs.Prelude.{is_none}
use Rattle.std.proofs.lemmas.Bool.{cases_lt, eq-eqb, eqb-true}
use Rattle.std.proofs.lemmas.Option.{get_or_from_slice_get, slice_get_past, slice_get_within}
use Rattle.std.specs.List.{All}
use Rattle.tdf_convert.specs.Sampled.{AreByOffset}
use Rattle.tdf_sim_instants.proofs.Crossed.{Crosses}
use Rattle.tdf_sim_instants.proofs.Passed.{Turns}
use Rattle.tdf_sim_instants.specs.Crossing.{is_ending}
use Rattle.tdf_sim_instants.specs.Engine.{HasDoneBefore, IsInProgress}
use Rattle.tdf_sim_instants.specs.Times.{due_offset, due_time}
use Rattle.tdf_sim_refinement.specs.Below.{AreDone, ClusterOf, is_next_due, is_offset, next_offset, offset_in}
use Rattle.tdf_bind.specs.declared.model.Flat.{Flat}
use Rattle.tdf_streams.proofs.Api.{get_inside}
use Rattle.tdf_bind_invariants.specs.Limits.{AreWithinLimits}
use Rattle.tdf_sim_refinement.proofs.Api.{by_offset, true_false, entries_inside, takes_time}
use Rattle.tdf_schedule.specs.declared.entry.Entry.{Entry}

all_at : {X : Type 0} (P : X → Type 0) (xs : List X) (j : ℕ) (x : X) → All P xs → slice_get xs j ≡ Some x → P x
all_at P xs j x all is = subst P (get_or_from_slice_get xs j x x is) (all j x (slice_get_within xs j x is))

-- a cluster in progress stays one
pub crossed_on : (P : Type 0) (flat : Flat) (n time s t : ℕ) (c d : ClusterOf) → AreWithinLimits flat → IsInProgress flat n c → Crosses P flat time c d s t → IsInProgress flat n d
crossed_on P flat n time s t c d limits on (Crosses.Stays going same kept) = subst (IsInProgress flat n) (sym same) on
crossed_on P flat n time s t c d limits on (Crosses.Begins head much of now) = record {
  of = of;
  number = head.number ∙ on.number;
  going = head.going;
  takes = takes_time flat d limits of;
  inside = entries_inside flat d limits of;
}

pub fired_on : (flat : Flat) (n offset : ℕ) (c d : ClusterOf) → IsInProgress flat n c → Turns flat offset c d → IsInProgress flat n d
fired_on flat n offset c d on (Turns.Idles none same) = subst (IsInProgress flat n) (sym same) on
fired_on flat n offset c d on (Turns.Fires due of did) = record {
  of = of;
  number = ap (λ (z : ClusterOf). z.number) did.moved.rest ∙ on.number;
  going = ap (λ (z : ClusterOf). z.crossed) did.moved.rest ∙ on.going;
  takes = subst (λ (z : ClusterOf). 0 < z.period) (sym did.moved.rest) on.takes;
  inside = subst (λ (z : ClusterOf). All (λ (x : Entry). x.offset < z.period) z.entries) (sym did.moved.rest) on.inside;
}

-- what is next due in a cluster is not before this time, and the end of its period comes later
pub record IsDueFrom (time s : ℕ) (c : ClusterOf) : Type 0 where
  pub from : time ≤ due_time s c
  pub end : next_offset c ≡ None → time < due_time s c

due_none : (s : ℕ) (c : ClusterOf) → next_offset c ≡ None → due_time s c ≡ s + c.period
due_none s c none = ap (λ o. s + due_offset c o) none

due_some : (s o : ℕ) (c : ClusterOf) → next_offset c ≡ Some o → due_time s c ≡ s + o
due_some s o c some = ap (λ p. s + due_offset c p) some

not_ending : (time s : ℕ) (c : ClusterOf) → is_ending time s c ≡ false → next_offset c ≡ None → time ≡ s + c.period → ⊥
not_ending time s c going none same = true_false (sym (ap (λ o. is_none o && nat_eq time (s + c.period)) none ∙ eq-eqb time (s + c.period) same) ∙ going)

pub crossed_due : (P : Type 0) (flat : Flat) (time s t : ℕ) (c d : ClusterOf) → 0 < d.period → time ≤ due_time s c → Crosses P flat time c d s t → IsDueFrom time t d
crossed_due P flat time s t c d takes from (Crosses.Stays going same kept) = record {
  from = subst (λ k. time ≤ due_time k d) (sym kept) (subst (λ z. time ≤ due_time s z) (sym same) from);
  end = subst (λ k. next_offset d ≡ None → time < due_time k d) (sym kept) (subst (λ z. next_offset z ≡ None → time < due_time s z) (sym same)
      (λ none. (let n = not_ending time s c going none in let d = due_none s c none in omega (arith, n, d, from))));
}
crossed_due P flat time s t c d takes from (Crosses.Begins head much of now) = record {
  from = omega (arith, now);
  end = λ none. (let e = due_none t d none in omega (arith, e, now, takes));
}

-- the next offset of a cluster, if it has one
next_or_none : (c : ClusterOf) → ((x : Entry) × (slice_get c.entries c.place ≡ Some x)) ⊎ (next_offset c ≡ None)
next_or_none c = elim (cases_lt c.place (length c.entries)) [
  | inl inside ↦ inl (get_inside c.entries c.place inside)
  | inr past ↦ inr (ap offset_in (slice_get_past c.entries c.place past))
]

not_due : (c : ClusterOf) (x : Entry) (offset : ℕ) → slice_get c.entries c.place ≡ Some x → is_next_due c offset ≡ false → x.offset ≡ offset → ⊥
not_due c x offset at none same = true_false (sym (ap (λ o. is_offset (offset_in o) offset) at ∙ eq-eqb x.offset offset same) ∙ none)

is_offset_some : (o : Option ℕ) (offset : ℕ) → is_offset o offset ≡ true → o ≡ Some offset
is_offset_some None offset due = absurd (true_false (sym due))
is_offset_some (Some k) offset due = ap Some (eqb-true k offset due)

idle_later : (time s : ℕ) (c : ClusterOf) → s ≤ time → IsDueFrom time s c → is_next_due c (time - s) ≡ false → ((x : Entry) × (slice_get c.entries c.place ≡ Some x)) ⊎ (next_offset c ≡ None) → time + 1 ≤ due_time s c
idle_later time s c begun from none (inl here) =
    let d = due_some s here.0.offset c (ap offset_in here.1) in
    let f = from.from in
    let n = not_due c here.0 (time - s) here.1 none in
    elim (cases_lt time (due_time s c)) [ inl less ↦ omega (arith, less) | inr over ↦ absurd (n (omega (arith, over, d, f, begun))) ]
idle_later time s c begun from none (inr end) = let e = from.end end in omega (arith, e)

module _ (time s : ℕ) (c d : ClusterOf) (begun : s ≤ time) (sorted : AreByOffset c.entries) (inside : All (λ (x : Entry). x.offset < c.period) c.entries) (due : is_next_due c (time - s) ≡ true) (did : AreDone (time - s) c d) where
  first : (x : Entry) × (slice_get c.entries c.place ≡ Some x) × (x.offset ≡ time - s)
  first = go (slice_get c.entries c.place) refl
    where
      go : (o : Option Entry) → slice_get c.entries c.place ≡ o → (x : Entry) × (slice_get c.entries c.place ≡ Some x) × (x.offset ≡ time - s)
      go None is = absurd (true_false (sym due ∙ ap (λ p. is_offset (offset_in p) (time - s)) is))
      go (Some x) is = (x, is, eqb-true x.offset (time - s) (sym (ap (λ p. is_offset (offset_in p) (time - s)) is) ∙ due))

  same_entries : d.entries ≡ c.entries
  same_entries = ap (λ (z : ClusterOf). z.entries) did.moved.rest

  same_period : d.period ≡ c.period
  same_period = ap (λ (z : ClusterOf). z.period) did.moved.rest

  fired_later : ((x : Entry) × (slice_get d.entries d.place ≡ Some x)) ⊎ (next_offset d ≡ None) → time + 1 ≤ due_time s d
  fired_later (inl here) =
      let up = by_offset c.entries c.place d.place first.0 here.0 sorted did.moved.up first.1 (ap (λ l. slice_get l d.place) (sym same_entries) ∙ here.1) in
      let e = due_some s here.0.offset d (ap offset_in here.1) in
      let f = first.2 in
      elim (cases_lt time (due_time s d)) [ inl less ↦ omega (arith, less) | inr over ↦ absurd (not_due d here.0 (time - s) here.1 did.all (omega (arith, over, e, up, f, begun))) ]
  fired_later (inr end) =
      let e = due_none s d end in
      let p = same_period in
      let f = first.2 in
      let i = all_at (λ (x : Entry). x.offset < c.period) c.entries c.place first.0 inside first.1 in
      omega (arith, e, p, f, i, begun)

pub turned_later : (flat : Flat) (time s : ℕ) (c d : ClusterOf) → s ≤ time → AreByOffset c.entries → All (λ (x : Entry). x.offset < c.period) c.entries → IsDueFrom time s c → Turns flat (time - s) c d
    → time + 1 ≤ due_time s d
turned_later flat time s c d begun sorted inside from (Turns.Idles none same) = subst (λ z. time + 1 ≤ due_time s z) (sym same) (idle_later time s c begun from none (next_or_none c))
turned_later flat time s c d begun sorted inside from (Turns.Fires due of did) = fired_later time s c d begun sorted inside due did (next_or_none d)

-- ---- what is done was due before

before_more : (time s : ℕ) (c : ClusterOf) → HasDoneBefore time s c → HasDoneBefore (time + 1) s c
before_more time s c before = record {
  begun = elim before.begun [ inl start ↦ inr (let a = start.0 in omega (arith, a)) | inr less ↦ inr (omega (arith, less)) ];
  done = λ i x below at. (let l = before.done i x below at in omega (arith, l));
}

pub crossed_before : (P : Type 0) (flat : Flat) (time s t : ℕ) (c d : ClusterOf) → HasDoneBefore time s c → Crosses P flat time c d s t → HasDoneBefore (time + 1) t d
crossed_before P flat time s t c d before (Crosses.Stays going same kept) =
    subst (λ k. HasDoneBefore (time + 1) k d) (sym kept) (subst (HasDoneBefore (time + 1) s) (sym same) (before_more time s c before))
crossed_before P flat time s t c d before (Crosses.Begins head much of now) = record {
  begun = inr (omega (arith, now));
  done = λ i x below at. absurd (let z = head.place in omega (arith, below, z));
}

pub turned_before : (flat : Flat) (time s : ℕ) (c d : ClusterOf) → s ≤ time → HasDoneBefore (time + 1) s c → Turns flat (time - s) c d → HasDoneBefore (time + 1) s d
turned_before flat time s c d begun before (Turns.Idles none same) = subst (HasDoneBefore (time + 1) s) (sym same) before
turned_before flat time s c d begun before (Turns.Fires due of did) = record {
  begun = before.begun;
  done = λ i x below at. (
      let there : slice_get c.entries i ≡ Some x = sym (ap (λ (z : ClusterOf). slice_get z.entries i) did.moved.rest) ∙ at in
      elim (cases_lt i c.place) [
        | inl old ↦ before.done i x old there
        | inr new ↦ (let o = did.each i x new below there in omega (arith, o, begun))
      ]);
}
