-- After the event part of an instant.
use Rattle.std.proofs.Common.{◌≡◌, ℕ, zero, suc, ◌+◌, ◌-◌, ◌^◌, ◌<◌, ◌≤◌, ◌&&◌, Bool, true, false, if◌then◌else◌, min, nat_eq, nat_lt, List, [], ◌∷◌, Option, Some, None, map, replicate, length, slice_get, slice_index, slice_index_or, slice_set, refl, ap, sym, ◌∙◌, subst, inl, inr, ◌⊎◌, arith}
use Rattle.std.proofs.lemmas.Bool.{true≢false}
use Rattle.std.proofs.lemmas.Bool.Decides.{eqb_tells}
use Rattle.std.proofs.lemmas.Option.{same_Some}
use Rattle.tdf_events_queue.specs.Evaluation.{evaluated}
use Rattle.tdf_events_queue.specs.Sets.{count_on, is_on}
use Rattle.tdf_events_queue.specs.Times.{earliest, pending_time}
use Rattle.tdf_convert.specs.declared.writes.SignalWrite.{SignalWrite}
use Rattle.tdf_events.proofs.Dues.{some_none}
use Rattle.tdf_events.specs.Delta.{IsNoneBefore, after_evaluation, begun, event_part, is_due, is_idle, settled_by, delta_stepped, turns_of, waiting_with}
use Rattle.tdf_events.specs.Laws.{EndsIdle, HasNothingWaiting, NextIsLater, NoneAtStart, NoneBeforeNext, NonePendingNoneBefore, NoneStaysBefore, NoneWithoutNext, NothingStaysWaiting, OnlyLaterStay, TurnsNeverGrow}
use Rattle.tdf_events.specs.Notices.{NoticesOf, event_noticed, noticed_first, time_after}
use Rattle.tdf_events.specs.Processes.{owned_events, owner_of, process_done, frame_at, ran, run_of}
use Rattle.tdf_events.specs.Side.{SideOf}
use Rattle.tdf_fixed.specs.declared.raw.Raw.{Raw}
use Rattle.tdf_bind.specs.declared.model.Flat.{Flat}
use Rattle.tdf_expr_state.specs.State.{standing}
use Rattle.tdf_lang_tree.specs.Pure.{PureTree}
use Rattle.tdf_bind_connections.specs.ProcessBlocks.{BlockRowOf, ProcessRowOf}

-- delta steps: what a step keeps holds of where they end
module _ (model : PureTree) (flat : Flat) (time : ℕ) (P : SideOf → Type 0) (keep : (s : SideOf) → P s → P (delta_stepped model flat time s)) where
  keep_one : (t i : Bool) (next after : SideOf) (over rest : ℕ) (more : Option (SideOf × ℕ)) → P next → (more ≡ Some (after, rest) → P after)
      → (if t then None else if i then Some (next, over) else more) ≡ Some (after, rest) → P after
  keep_one true i next after over rest more p later is = absurd cc
  keep_one false true next after over rest more p later is = subst P (ap (λ (x : SideOf × ℕ). x.0) (same_Some (next, over) (after, rest) is)) p
  keep_one false false next after over rest more p later is = later is

  settles_with : (fuel : ℕ) (s after : SideOf) (left rest : ℕ) → P (delta_stepped model flat time s) → settled_by fuel model flat time s left ≡ Some (after, rest) → P after
  unfolding settled_by
  settles_with zero s after left rest p is = absurd cc
  settles_with (suc fuel) s after left rest p is = keep_one (nat_lt left (turns_of s)) (is_idle (delta_stepped model flat time s)) (delta_stepped model flat time s) after (left - turns_of s) rest
      (settled_by fuel model flat time (delta_stepped model flat time s) (left - turns_of s)) p (λ h. settles_with fuel (delta_stepped model flat time s) after (left - turns_of s) rest (keep (delta_stepped model flat time s) p) h) is

-- they end with no process triggered, and with no more turns
abbrev Ends : SideOf → (left rest : ℕ) → Type 0
Ends after left rest = (is_idle after ≡ true) × (rest ≤ left)

ends_one : (t i : Bool) (next after : SideOf) (left over rest : ℕ) (more : Option (SideOf × ℕ)) → is_idle next ≡ i → over ≤ left → (more ≡ Some (after, rest) → Ends after over rest)
    → (if t then None else if i then Some (next, over) else more) ≡ Some (after, rest) → Ends after left rest
ends_one true i next after left over rest more idle low later is = absurd cc
ends_one false true next after left over rest more idle low later is = let same : (next, over) ≡ (after, rest) = same_Some (next, over) (after, rest) is in
    let turns : over ≡ rest = ap (λ (x : SideOf × ℕ). x.1) same in let low' : rest ≤ left = subst (λ (n : ℕ). n ≤ left) turns low in (sym (ap (λ (x : SideOf × ℕ). is_idle x.0) same) ∙ idle, low')
ends_one false false next after left over rest more idle low later is = let e = later is in let l = e.1 in (e.0, omega (arith, low, l))

settles_ends : (model : PureTree) (flat : Flat) (time fuel : ℕ) (s after : SideOf) (left rest : ℕ) → settled_by fuel model flat time s left ≡ Some (after, rest) → Ends after left rest
unfolding settled_by
settles_ends model flat time zero s after left rest is = absurd cc
settles_ends model flat time (suc fuel) s after left rest is = ends_one (nat_lt left (turns_of s)) (is_idle (delta_stepped model flat time s)) (delta_stepped model flat time s) after left (left - turns_of s) rest
    (settled_by fuel model flat time (delta_stepped model flat time s) (left - turns_of s)) refl (omega arith) (λ h. settles_ends model flat time fuel (delta_stepped model flat time s) after (left - turns_of s) rest h) is

-- an event part ends at once, where nothing was written and no process is triggered, or after delta steps
part_ends : (a b : Bool) (first after : SideOf) (left rest : ℕ) (more : Option (SideOf × ℕ)) → is_idle first ≡ b → (more ≡ Some (after, rest) → Ends after left rest)
    → (if a && b then Some (first, left) else more) ≡ Some (after, rest) → Ends after left rest
part_ends true true first after left rest more idle later is = let whole : left ≤ left = omega arith in let same : (first, left) ≡ (after, rest) = same_Some (first, left) (after, rest) is in
    let turns : left ≡ rest = ap (λ (x : SideOf × ℕ). x.1) same in (sym (ap (λ (x : SideOf × ℕ). is_idle x.0) same) ∙ idle, subst (λ (n : ℕ). n ≤ left) turns whole)
part_ends true false first after left rest more idle later is = later is
part_ends false b first after left rest more idle later is = later is

instant_ends : (model : PureTree) (flat : Flat) (time left rest : ℕ) (writes : List SignalWrite) (s after : SideOf) → event_part model flat time writes s left ≡ Some (after, rest) → Ends after left rest
instant_ends model flat time left rest writes s after is = part_ends (nat_eq (length writes) 0) (is_idle (begun flat time writes s)) (begun flat time writes s) after left rest
    (settled_by (left + 1) model flat time (begun flat time writes s) left) refl (λ h. settles_ends model flat time (left + 1) (begun flat time writes s) after left rest h) is

pub ends_idle : EndsIdle
ends_idle model flat time left rest writes s after is = (instant_ends model flat time left rest writes s after is).0

pub turns_never_grow : TurnsNeverGrow
turns_never_grow model flat time left rest writes s after is = (instant_ends model flat time left rest writes s after is).1

-- what the beginning has, or a step keeps, holds after an event part
part_keeps : (P : SideOf → Type 0) (a b : Bool) (first after : SideOf) (left rest : ℕ) (more : Option (SideOf × ℕ)) → (a ≡ true → P first) → (more ≡ Some (after, rest) → P after)
    → (if a && b then Some (first, left) else more) ≡ Some (after, rest) → P after
part_keeps P true true first after left rest more p later is = subst P (ap (λ (x : SideOf × ℕ). x.0) (same_Some (first, left) (after, rest) is)) (p refl)
part_keeps P true false first after left rest more p later is = later is
part_keeps P false b first after left rest more p later is = later is

pub instant_keeps : (P : SideOf → Type 0) (model : PureTree) (flat : Flat) (time left rest : ℕ) (writes : List SignalWrite) (s after : SideOf) → ((s : SideOf) → P s → P (delta_stepped model flat time s))
    → (nat_eq (length writes) 0 ≡ true → P (begun flat time writes s)) → P (delta_stepped model flat time (begun flat time writes s))
    → event_part model flat time writes s left ≡ Some (after, rest) → P after
instant_keeps P model flat time left rest writes s after keep first next is = part_keeps P (nat_eq (length writes) 0) (is_idle (begun flat time writes s)) (begun flat time writes s) after left rest
    (settled_by (left + 1) model flat time (begun flat time writes s) left) first (λ h. settles_with model flat time P keep (left + 1) (begun flat time writes s) after left rest next h) is

abbrev nothing : Option Raw
nothing = None

-- nothing waits after a step
none_waits : (xs : List (Option Raw)) (s : ℕ) → slice_index_or (map (λ (value : Option Raw). nothing) xs) s nothing ≡ nothing
none_waits [] s = refl
none_waits (x ∷ xs) zero = refl
none_waits (x ∷ xs) (suc s) = none_waits xs s

none_on : (xs : List Bool) (e : ℕ) → is_on (map (λ (on : Bool). false) xs) e ≡ false
none_on [] e = refl
none_on (x ∷ xs) zero = refl
none_on (x ∷ xs) (suc e) = none_on xs e

step_empties : (model : PureTree) (flat : Flat) (time : ℕ) (s : SideOf) → HasNothingWaiting (delta_stepped model flat time s)
unfolding delta_stepped
step_empties model flat time s = record {
  values = none_waits (after_evaluation model flat time s).waiting;
  delta = none_on (after_evaluation model flat time s).notices.delta;
}

begun_empty : (flat : Flat) (time : ℕ) (writes : List SignalWrite) (s : SideOf) → HasNothingWaiting s → nat_eq (length writes) 0 ≡ true → HasNothingWaiting (begun flat time writes s)
unfolding waiting_with
begun_empty flat time [] s none is = record { values = none.values; delta = none.delta }
begun_empty flat time (w ∷ writes) s none is = elim (eqb_tells (suc (length writes)) 0) [ inl y ↦ (let e = y.1 in absurd (omega (arith, e))) | inr n ↦ absurd (true≢false (sym is ∙ n.0)) ]

pub nothing_stays_waiting : NothingStaysWaiting
nothing_stays_waiting model flat time left rest writes s after none is = instant_keeps HasNothingWaiting model flat time left rest writes s after (λ x p. step_empties model flat time x)
    (λ no. begun_empty flat time writes s none no) (step_empties model flat time (begun flat time writes s)) is

-- a time that is set is the new one, or was there
time_set : (times : List (Option ℕ)) (event : ℕ) (o : Option ℕ) (e t : ℕ) → pending_time (slice_set times event o) e ≡ Some t → (o ≡ Some t) ⊎ (pending_time times e ≡ Some t)
time_set [] event o e t is = inr is
time_set (x ∷ xs) zero o zero t is = inl is
time_set (x ∷ xs) zero o (suc e) t is = inr is
time_set (x ∷ xs) (suc event) o zero t is = inr is
time_set (x ∷ xs) (suc event) o (suc e) t is = time_set xs event o e t is

set_before : (bound : ℕ) (times : List (Option ℕ)) (event : ℕ) (o : Option ℕ) → IsNoneBefore bound times → ((t : ℕ) → o ≡ Some t → bound ≤ t) → IsNoneBefore bound (slice_set times event o)
set_before bound times event o before late = record {
  none = λ e t is. elim (time_set times event o e t is) [ inl new ↦ late t new | inr was ↦ before.none e t was ];
}

module _ (bound time : ℕ) (low : bound ≤ time + 1) (inside : bound < 2 ^ 64) where
  earliest_late : (o : Option ℕ) (new t : ℕ) → ((t : ℕ) → o ≡ Some t → bound ≤ t) → bound ≤ new → Some (earliest o new) ≡ Some t → bound ≤ t
  earliest_late None new t was late is = subst (λ (x : ℕ). bound ≤ x) (same_Some new t is) late
  earliest_late (Some old) new t was late is = let a : bound ≤ old = was old refl in let b : bound ≤ min old new = omega (arith, a, late) in subst (λ (x : ℕ). bound ≤ x) (same_Some (min old new) t is) b

  noticed_before : (event : ℕ) (o : Option ℕ) (n : NoticesOf) → IsNoneBefore bound n.times → IsNoneBefore bound (event_noticed time event o n).times
  noticed_before event None n before = before
  noticed_before event (Some after) n before = choose (is_on n.delta event) (nat_eq after 0) (elim (eqb_tells after 0) [ inl y ↦ (λ no. absurd cc) | inr x ↦ (λ no. let p = x.1 in omega (arith, low, inside, p)) ])
    where
      choose : (b c : Bool) → (c ≡ false → bound ≤ time_after time after) → IsNoneBefore bound (if b then n else if c then record { times = slice_set n.times event None; delta = slice_set n.delta event true }
          else record { times = slice_set n.times event (Some (earliest (pending_time n.times event) (time_after time after))); delta = n.delta }).times
      choose true c late = before
      choose false true late = set_before bound n.times event None before (λ t h. absurd cc)
      choose false false late = set_before bound n.times event (Some (earliest (pending_time n.times event) (time_after time after))) before
          (λ t h. earliest_late (pending_time n.times event) (time_after time after) t (before.none event) (late refl) h)

  all_noticed_before : (events : List ℕ) (asked : List (Option ℕ)) (i : ℕ) (n : NoticesOf) → IsNoneBefore bound n.times → IsNoneBefore bound (noticed_first time events asked i n).times
  unfolding noticed_first
  all_noticed_before events asked zero n before = before
  all_noticed_before events asked (suc i) n before = noticed_before (slice_index events i) (standing (slice_get asked i)) (noticed_first time events asked i n) (all_noticed_before events asked i n before)

  run_before : (model : PureTree) (flat : Flat) (p : Option ProcessRowOf) (r : Option BlockRowOf) (s : SideOf) → IsNoneBefore bound s.notices.times → IsNoneBefore bound (run_of model flat time p r s).notices.times
  run_before model flat (Some process) (Some row) s before = all_noticed_before (owned_events flat process.owner)
      (process_done model flat process row s.values (frame_at s.frames process.owner)).ports.notified (length (owned_events flat process.owner)) s.notices before
  run_before model flat (Some process) None s before = before
  run_before model flat None r s before = before

  ran_before : (model : PureTree) (flat : Flat) (n : ℕ) (s : SideOf) → IsNoneBefore bound s.notices.times → IsNoneBefore bound (ran model flat time n s).notices.times
  unfolding ran
  ran_before model flat n s before = run_before model flat (slice_get flat.tables.processes n) (slice_get flat.tables.blocks (owner_of (slice_get flat.tables.processes n))) s before

  evaluated_before : (model : PureTree) (flat : Flat) (flags : List Bool) (n : ℕ) (s : SideOf) → IsNoneBefore bound s.notices.times → IsNoneBefore bound (evaluated (ran model flat time) flags n s).notices.times
  unfolding evaluated
  evaluated_before model flat flags zero s before = before
  evaluated_before model flat flags (suc n) s before = choose (evaluated_before model flat flags n s before) (is_on flags n)
    where
      choose : IsNoneBefore bound (evaluated (ran model flat time) flags n s).notices.times → (b : Bool) → IsNoneBefore bound (if b then ran model flat time n (evaluated (ran model flat time) flags n s) else evaluated (ran model flat time) flags n s).notices.times
      choose was true = ran_before model flat n (evaluated (ran model flat time) flags n s) was
      choose was false = was

  stepped_before : (model : PureTree) (flat : Flat) (s : SideOf) → IsNoneBefore bound s.notices.times → IsNoneBefore bound (delta_stepped model flat time s).notices.times
  unfolding delta_stepped
  stepped_before model flat s before = record { none = (evaluated_before model flat s.triggered (length s.triggered) s before).none }

  instant_before : (model : PureTree) (flat : Flat) (left rest : ℕ) (writes : List SignalWrite) (s after : SideOf) → IsNoneBefore bound (begun flat time writes s).notices.times
      → event_part model flat time writes s left ≡ Some (after, rest) → IsNoneBefore bound after.notices.times
  instant_before model flat left rest writes s after before is = instant_keeps (λ x. IsNoneBefore bound x.notices.times) model flat time left rest writes s after (stepped_before model flat)
      (λ no. before) (stepped_before model flat (begun flat time writes s) before) is

-- those that come at a time are gone
left_later : (time : ℕ) (times : List (Option ℕ)) (e t : ℕ) → pending_time (map (λ pending. if is_due time pending then None else pending) times) e ≡ Some t → (pending_time times e ≡ Some t) × (is_due time (Some t) ≡ false)
left_later time [] e t is = absurd cc
left_later time (None ∷ xs) zero t is = absurd cc
left_later time (Some x ∷ xs) zero t is = one (nat_eq x time) refl is
  where
    one : (b : Bool) → nat_eq x time ≡ b → (if b then None else Some x) ≡ Some t → (Some x ≡ Some t) × (is_due time (Some t) ≡ false)
    one true due there = absurd cc
    one false due there = (there, subst (λ (y : ℕ). nat_eq y time ≡ false) (same_Some x t there) due)
left_later time (x ∷ xs) (suc e) t is = left_later time xs e t is

begun_later : (flat : Flat) (time : ℕ) (writes : List SignalWrite) (s : SideOf) → IsNoneBefore time s.notices.times → IsNoneBefore (time + 1) (begun flat time writes s).notices.times
begun_later flat time writes s before = record {
  none = λ e t is. (let l = left_later time s.notices.times e t is in let low : time ≤ t = before.none e t l.0 in
      elim (eqb_tells t time) [ inl y ↦ absurd (true≢false (sym y.0 ∙ l.1)) | inr n ↦ (let apart = n.1 in omega (arith, low, apart)) ]);
}

less_before : (time : ℕ) (times : List (Option ℕ)) → IsNoneBefore (time + 1) times → IsNoneBefore time times
less_before time times before = record { none = λ e t is. (let l : time + 1 ≤ t = before.none e t is in omega (arith, l)) }

pub none_stays_before : NoneStaysBefore
none_stays_before model flat time left rest writes s after inside before is = instant_before time time (omega arith) inside model flat left rest writes s after
    (less_before time (begun flat time writes s).notices.times (begun_later flat time writes s before)) is

pub only_later_stay : OnlyLaterStay
only_later_stay model flat time left rest writes s after inside before is = instant_before (time + 1) time (omega arith) inside model flat left rest writes s after (begun_later flat time writes s before) is

-- the next time
none_on_of : (s : SideOf) → is_idle s ≡ true → count_on s.triggered ≡ 0
none_on_of s idle = elim (eqb_tells (count_on s.triggered) 0) [ inl y ↦ y.1 | inr n ↦ absurd (true≢false (sym idle ∙ n.0)) ]

pub none_pending_before : NonePendingNoneBefore
none_pending_before times time none = record { none = λ e t is. absurd (some_none (pending_time times e) t (none.none e) is) }

pub none_before_next : NoneBeforeNext
none_before_next s time next idle is low = elim is [
  | inl busy ↦ (let b = busy.0 in let z = none_on_of s idle in absurd (omega (arith, b, z)))
  | inr first ↦ record { none = λ e t there. (let l : next ≤ t = first.1.1.least e t there in omega (arith, l, low)) }
]

pub none_without_next : NoneWithoutNext
none_without_next s is = elim is [
  | inl busy ↦ absurd (some_none None 0 refl busy.1)
  | inr none ↦ (ap (λ (n : ℕ). nat_eq n 0) none.0, none.1)
]

pub next_is_later : NextIsLater
next_is_later model flat time left rest next writes s after inside before is first = elim first [
  | inl busy ↦ (let b = busy.0 in let z = none_on_of after (ends_idle model flat time left rest writes s after is) in absurd (omega (arith, b, z)))
  | inr l ↦ (let low : time + 1 ≤ next = (only_later_stay model flat time left rest writes s after inside before is).none l.1.0 next l.1.1.is in omega (arith, low))
]

none_there : {A : Type 0} (d : A) (n e : ℕ) → slice_index_or (replicate n d) e d ≡ d
none_there d zero e = refl
none_there d (suc n) zero = refl
none_there d (suc n) (suc e) = none_there d n e

pub none_at_start : NoneAtStart
none_at_start flat = (
  record { none = none_there None (length flat.tables.events) },
  record { values = none_there None (length flat.tables.de_signals); delta = none_there false (length flat.tables.events) },
)
