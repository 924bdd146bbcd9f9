-- When events are to come, where notifications are pending.
use Rattle.std.proofs.Common.{◌≡◌, ◌≢◌, ◌∙◌, ◌+◌, ℕ, zero, suc, if◌then◌else◌, List, [], ◌∷◌, Option, Some, None, length, replicate, slice_get, slice_set, length-set, get_or-set_same, get_or-set_other, refl, sym, ap, subst, inl, inr, arith}
use Rattle.std.proofs.lemmas.Bool.{cases_eq, eq-eqb, ne_eqb}
use Rattle.std.proofs.lemmas.List.{ext_get_or, length-replicate}
use Rattle.std.proofs.lemmas.List.FromFn.{get_or-map-range_with_len, length-map-range_with_len}
use Rattle.tdf_events.proofs.Resumed.{rises_to, with_length}
use Rattle.tdf_events.specs.State.{ArePendingFrom, time_pending, times_pending}
use Rattle.tdf_events.specs.machine.Resuming.{with_pending}
use Rattle.tdf_events_queue.specs.Times.{pending_time}
use Rattle.tdf_saved.specs.declared.state.Pending.{Pending}

-- none of these is of an event
abbrev pub AreOfOthers : List Pending → (event : ℕ) → Type 0
AreOfOthers list event = (i : ℕ) (p : Pending) → slice_get list i ≡ Some p → p.event ≢ event

pub rest_come : (events time : ℕ) (p : Pending) (ps : List Pending) → ArePendingFrom events time (p ∷ ps) → ArePendingFrom events time ps
rest_come events time p ps all = record {
  each = λ i q at. all.each (suc i) q at;
  rising = λ i q r at next. all.rising (suc i) q r at (subst (λ k. slice_get (p ∷ ps) k ≡ Some r) (suc_same i) next);
}
  where
    suc_same : (i : ℕ) → suc (i + 1) ≡ suc i + 1
    suc_same i = omega arith

pub first_is_apart : (events time : ℕ) (p : Pending) (ps : List Pending) → ArePendingFrom events time (p ∷ ps) → AreOfOthers ps p.event
first_is_apart events time p ps all i q at = λ same. absurd (let less = rises_to events time (p ∷ ps) all 0 (suc i) p q (omega arith) refl at in omega (arith, less, same))

pub none_in : (list : List Pending) (event : ℕ) → AreOfOthers list event → time_pending list event ≡ None
unfolding time_pending
none_in [] event apart = refl
none_in (p ∷ ps) event apart = ap (λ b. if b then Some p.time else time_pending ps event) (ne_eqb p.event event (apart 0 p refl)) ∙ none_in ps event (λ i q at. apart (suc i) q at)

-- the one, else the other
first_of : Option ℕ → Option ℕ → Option ℕ
first_of None other = other
first_of (Some time) other = Some time

-- the times of the list come before those that were
times_at : (events time : ℕ) (list : List Pending) (times : List (Option ℕ)) (k : ℕ) → ArePendingFrom events time list → events ≡ length times
    → pending_time (with_pending list times) k ≡ first_of (time_pending list k) (pending_time times k)
unfolding with_pending time_pending first_of
times_at events time [] times k all long = refl
times_at events time (p ∷ ps) times k all long =
    let rest = times_at events time ps (slice_set times p.event (Some p.time)) k (rest_come events time p ps all) (long ∙ sym (length-set times p.event (Some p.time))) in
    elim (cases_eq p.event k) [
      | inl same ↦ (
          let inside = (all.each 0 p refl).event in
          let none : time_pending ps k ≡ None = subst (λ e. time_pending ps e ≡ None) same (none_in ps p.event (first_is_apart events time p ps all)) in
          let here : pending_time (slice_set times p.event (Some p.time)) k ≡ Some p.time = subst (λ e. pending_time (slice_set times p.event (Some p.time)) e ≡ Some p.time) same (get_or-set_same times p.event (Some p.time) None (omega (arith, inside, long))) in
          rest ∙ ap (λ o. first_of o (pending_time (slice_set times p.event (Some p.time)) k)) none ∙ here
          ∙ sym (ap (λ b. first_of (if b then Some p.time else time_pending ps k) (pending_time times k)) (eq-eqb p.event k same)))
      | inr apart ↦ rest ∙ ap (first_of (time_pending ps k)) (get_or-set_other times p.event k (Some p.time) None (λ e. absurd (apart (sym e))))
          ∙ sym (ap (λ b. first_of (if b then Some p.time else time_pending ps k) (pending_time times k)) (ne_eqb p.event k apart))
    ]

none_pending : (n event : ℕ) → pending_time (replicate n None) event ≡ None
none_pending zero event = refl
none_pending (suc n) zero = refl
none_pending (suc n) (suc event) = none_pending n event

none_after : (o : Option ℕ) → first_of o None ≡ o
unfolding first_of
none_after None = refl
none_after (Some time) = refl

-- so they are those of the list, where there were none
pub times_are : (events time : ℕ) (list : List Pending) → ArePendingFrom events time list → with_pending list (replicate events None) ≡ times_pending events list
times_are events time list all =
    let long : length (replicate {A = Option ℕ} events None) ≡ events = length-replicate {A = Option ℕ} events None in
    let made = length-map-range_with_len (time_pending list) 0 events in
    let kept = with_length list (replicate events None) in
    ext_get_or None (with_pending list (replicate events None)) (times_pending events list) (kept ∙ long ∙ sym made)
    (λ k less. times_at events time list (replicate events None) k all (sym long) ∙ ap (first_of (time_pending list k)) (none_pending events k) ∙ none_after (time_pending list k)
    ∙ sym (get_or-map-range_with_len (time_pending list) 0 events k k None (omega (arith, less, kept, long)) (omega arith)))
