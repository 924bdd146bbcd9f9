-- The event part of an instant, as the driver sees it.
use Rattle.std.proofs.Common.{◌≡◌, ℕ, zero, suc, ◌+◌, ◌-◌, ◌<◌, Bool, true, false, ◌&&◌, ◌||◌, nat_eq, nat_lt, cond, if◌then◌else◌, List, [], ◌∷◌, length, Option, Some, None, refl, ap, sym, ◌∙◌, subst, inl, inr, arith}
use Rattle.std.proofs.lemmas.Bool.{true≢false}
use Rattle.std.proofs.lemmas.Bool.Decides.{eqb_tells}
use Rattle.std.proofs.lemmas.List.Recursion.{is_count_by}
use Rattle.std.proofs.lemmas.Option.{same_Some}
use Rattle.std.specs.List.{AllByRecursion, list_any}
use Rattle.tdf_bind.specs.declared.model.Flat.{Flat}
use Rattle.tdf_convert.specs.declared.writes.SignalWrite.{SignalWrite}
use Rattle.tdf_events.specs.Delta.{begun, delta_stepped, event_part, is_due, is_idle, settled_by, turns_of}
use Rattle.tdf_events.specs.Side.{SideOf}
use Rattle.tdf_events_queue.specs.Sets.{count_on, is_on}
use Rattle.tdf_events_queue.specs.Times.{pending_time}
use Rattle.tdf_lang_tree.specs.Pure.{PureTree}
use Rattle.tdf_stim_history.proofs.Lists.{flag_at, gone_at, gone_long, none_any, or_true, others_wait, some_any, waiting_long}
use Rattle.tdf_stim_history.proofs.Stepping.{step_off, step_on}
use Rattle.tdf_stim_history.specs.Driver.{CanDrive, DriverOf, IsDriverProcess, pending_after}
use Rattle.tdf_stim_history.specs.Laws.{DriverPart, DrivesOn, times_left}
use Rattle.tdf_stim_history.specs.Standing.{DrivesNext, HasDriven, HasNoneDue, HasOneDue, IsDriverPart, StandsDriven, WritesOther, left_after}

-- delta steps: what a step keeps holds of where they end
module _ (model : PureTree) (flat : Flat) (time : ℕ) (P : SideOf → Type 0) (keep : (s : SideOf) → P s → P (delta_stepped model flat time s)) where
  keep_one : (t i : Bool) (next after : SideOf) (over rest : ℕ) (more : Option (SideOf × ℕ)) → P next → (more ≡ Some (after, rest) → P after)
      → (if t then None else if i then Some (next, over) else more) ≡ Some (after, rest) → P after
  keep_one true i next after over rest more p later is = absurd (cc)
  keep_one false true next after over rest more p later is = subst P (ap (λ (x : SideOf × ℕ). x.0) (same_Some (next, over) (after, rest) is)) p
  keep_one false false next after over rest more p later is = later is

  settles_with : (fuel : ℕ) (s after : SideOf) (left rest : ℕ) → P (delta_stepped model flat time s) → settled_by fuel model flat time s left ≡ Some (after, rest) → P after
  unfolding settled_by
  settles_with zero s after left rest p is = absurd (cc)
  settles_with (suc fuel) s after left rest p is = keep_one (nat_lt left (turns_of s)) (is_idle (delta_stepped model flat time s)) (delta_stepped model flat time s) after (left - turns_of s) rest
      (settled_by fuel model flat time (delta_stepped model flat time s) (left - turns_of s)) p (λ h. settles_with fuel (delta_stepped model flat time s) after (left - turns_of s) rest (keep (delta_stepped model flat time s) p) h) is

-- what the beginning has where it ends at once, or a step gives, holds after an event part
part_has : (P : SideOf → Type 0) (a b : Bool) (first after : SideOf) (left rest : ℕ) (more : Option (SideOf × ℕ)) → (b ≡ true → P first) → (more ≡ Some (after, rest) → P after)
    → (if a && b then Some (first, left) else more) ≡ Some (after, rest) → P after
part_has P true true first after left rest more p later is = subst P (ap (λ (x : SideOf × ℕ). x.0) (same_Some (first, left) (after, rest) is)) (p refl)
part_has P true false first after left rest more p later is = later is
part_has P false b first after left rest more p later is = later is

part_keeps : (P : SideOf → Type 0) (model : PureTree) (flat : Flat) (time left rest : ℕ) (writes : List SignalWrite) (s after : SideOf) → ((s : SideOf) → P s → P (delta_stepped model flat time s))
    → (is_idle (begun flat time writes s) ≡ true → P (begun flat time writes s)) → P (delta_stepped model flat time (begun flat time writes s))
    → event_part model flat time writes s left ≡ Some (after, rest) → P after
part_keeps P model flat time left rest writes s after keep first next is = part_has P (nat_eq (length writes) 0) (is_idle (begun flat time writes s)) (begun flat time writes s) after left rest
    (settled_by (left + 1) model flat time (begun flat time writes s) left) first (λ h. settles_with model flat time P keep (left + 1) (begun flat time writes s) after left rest next h) is

-- a flag that is on is counted
abbrev count_rec : List Bool → ℕ
count_rec [] = 0
count_rec (f ∷ fs) = cond f (1 + count_rec fs) (count_rec fs)

count_is : (flags : List Bool) → count_rec flags ≡ count_on flags
count_is = is_count_by count_rec (λ on. on) refl (λ f fs. refl)

rec_some : (flags : List Bool) (p : ℕ) → is_on flags p ≡ true → 0 < count_rec flags
rec_some [] p h = absurd (cc)
rec_some (true ∷ fs) p h = omega arith
rec_some (false ∷ fs) zero h = absurd (cc)
rec_some (false ∷ fs) (suc p) h = rec_some fs p h

pub not_idle : (s : SideOf) (p : ℕ) → is_on s.triggered p ≡ true → is_idle s ≡ true → ⊥
not_idle s p on idle = elim (eqb_tells (count_on s.triggered) 0) [
  | inl y ↦ (let some = rec_some s.triggered p on in let e = count_is s.triggered in let z = y.1 in omega (arith, some, e, z))
  | inr n ↦ true≢false (sym idle ∙ n.0)
]

-- how an event part begins
begun_can : (d : DriverOf) (flat : Flat) (m time : ℕ) (writes : List SignalWrite) (s : SideOf) → CanDrive d m s → CanDrive d m (begun flat time writes s)
begun_can d flat m time writes s can = record {
  held = can.held;
  frame = can.frame;
  signals = λ x o. subst (λ n. x < n) (sym (waiting_long writes s.waiting)) (can.signals x o);
  events = λ e o. subst (λ n. e < n) (sym (gone_long time s.notices.times)) (can.events e o);
  delta = can.delta;
  first = λ zero e o. gone_at time s.notices.times e ∙ ap (left_after time) (can.first zero e o);
}

begun_part : (d : DriverOf) (flat : Flat) (m time : ℕ) (writes : List SignalWrite) (s : SideOf) → IsDriverPart d m s → AllByRecursion (WritesOther d) writes → IsDriverPart d m (begun flat time writes s)
begun_part d flat m time writes s part other = record {
  can = begun_can d flat m time writes s part.can;
  values = part.values;
  many = waiting_long writes s.waiting ∙ part.many;
  waiting = λ x o. others_wait d writes s.waiting x other o ∙ part.waiting x o;
}

-- the driver's flag is on where it was on or an event of it is due
begun_flag : (d : DriverOf) (flat : Flat) (time : ℕ) (writes : List SignalWrite) (s : SideOf) → (p : IsDriverProcess d flat.tables.processes)
    → is_on (begun flat time writes s).triggered d.process ≡ (is_on s.triggered d.process || list_any (λ e. is_due time (pending_time s.notices.times e)) p.row.events)
begun_flag d flat time writes s p =
    flag_at (λ n row. is_on s.triggered n || list_any (λ e. is_due time (pending_time s.notices.times e)) row.events) 0 flat.tables.processes d.process p.row p.at
    ∙ (let f : 0 + d.process ≡ d.process = omega arith in ap (λ n. is_on s.triggered n || list_any (λ e. is_due time (pending_time s.notices.times e)) p.row.events) f)

pub due_itself : (time : ℕ) → is_due time (Some time) ≡ true
due_itself time = elim (eqb_tells time time) [ inl y ↦ y.0 | inr n ↦ absurd (n.1 refl) ]

pub not_due : (time : ℕ) (pending : Option ℕ) → (pending ≡ Some time → ⊥) → is_due time pending ≡ false
not_due time None never = refl
not_due time (Some p) never = elim (eqb_tells p time) [ inl y ↦ absurd (never (ap Some y.1)) | inr n ↦ n.0 ]

begun_due : (d : DriverOf) (flat : Flat) (m time : ℕ) (writes : List SignalWrite) (s : SideOf) → IsDriverProcess d flat.tables.processes → HasDriven d m s → AllByRecursion (WritesOther d) writes
    → HasOneDue d time s → DrivesNext d m (begun flat time writes s)
begun_due d flat m time writes s p driven other one =
    let any : list_any (λ e. is_due time (pending_time s.notices.times e)) p.row.events ≡ true =
    some_any (λ e. is_due time (pending_time s.notices.times e)) p.row.events one.event (p.events one.event ∙ one.own) (ap (is_due time) one.due ∙ due_itself time) in
    record {
      part = begun_part d flat m time writes s driven.part other;
      on = begun_flag d flat time writes s p ∙ ap (λ b. is_on s.triggered d.process || b) any ∙ or_true (is_on s.triggered d.process);
    }

begun_first : (d : DriverOf) (flat : Flat) (m time : ℕ) (writes : List SignalWrite) (s : SideOf) → IsDriverProcess d flat.tables.processes → DrivesNext d m s → AllByRecursion (WritesOther d) writes
    → DrivesNext d m (begun flat time writes s)
begun_first d flat m time writes s p next other = record {
  part = begun_part d flat m time writes s next.part other;
  on = begun_flag d flat time writes s p ∙ ap (λ b. b || list_any (λ e. is_due time (pending_time s.notices.times e)) p.row.events) next.on;
}

begun_none : (d : DriverOf) (flat : Flat) (m time : ℕ) (writes : List SignalWrite) (s : SideOf) → IsDriverProcess d flat.tables.processes → HasDriven d m s → AllByRecursion (WritesOther d) writes
    → HasNoneDue d time s → HasDriven d m (begun flat time writes s)
begun_none d flat m time writes s p driven other none =
    let no_event : list_any (λ e. is_due time (pending_time s.notices.times e)) p.row.events ≡ false =
    none_any (λ e. is_due time (pending_time s.notices.times e)) p.row.events (λ e there. not_due time (pending_time s.notices.times e) (none e (sym (p.events e) ∙ there))) in
    record {
      part = begun_part d flat m time writes s driven.part other;
      off = begun_flag d flat time writes s p ∙ ap (λ b. b || list_any (λ e. is_due time (pending_time s.notices.times e)) p.row.events) driven.off ∙ no_event;
    }

module _ (d : DriverOf) (model : PureTree) (flat : Flat) (time : ℕ) (s after : SideOf) (part : DriverPart d model flat time s after) where
  keep_by : (m : ℕ) (pending : ℕ → Option ℕ) (t : SideOf) → StandsDriven d m pending t → StandsDriven d m pending (delta_stepped model flat time t)
  keep_by m pending t stands = step_off d model flat part.runs part.process time m pending t stands

  -- the driver is to run
  drives_one : (m : ℕ) → m < d.rows → (m ≡ 0 → time ≡ 0) → DrivesNext d m (begun flat time part.writes s) → StandsDriven d (m + 1) (λ e. pending_after d m e (times_left s time e)) after
  drives_one m more first next =
      let stands : StandsDriven d (m + 1) (λ e. pending_after d m e (pending_time (begun flat time part.writes s).notices.times e)) after =
      part_keeps (λ t. StandsDriven d (m + 1) (λ e. pending_after d m e (pending_time (begun flat time part.writes s).notices.times e)) t) model flat time part.left part.rest part.writes s after
      (λ t stands. keep_by (m + 1) (λ e. pending_after d m e (pending_time (begun flat time part.writes s).notices.times e)) t stands)
      (λ idle. absurd (not_idle (begun flat time part.writes s) d.process next.on idle))
      (step_on d model flat part.runs part.process time m (begun flat time part.writes s) more first next) part.is in
      record {
        driven = stands.driven;
        times = λ e o. stands.times e o ∙ ap (pending_after d m e) (gone_at time s.notices.times e);
      }

  -- it isn't
  drives_none : (m : ℕ) → HasDriven d m (begun flat time part.writes s) → StandsDriven d m (times_left s time) after
  drives_none m driven =
      let begins : StandsDriven d m (times_left s time) (begun flat time part.writes s) = record { driven = driven; times = λ e o. gone_at time s.notices.times e } in
      part_keeps (λ t. StandsDriven d m (times_left s time) t) model flat time part.left part.rest part.writes s after (λ t stands. keep_by m (times_left s time) t stands)
      (λ idle. begins) (keep_by m (times_left s time) (begun flat time part.writes s) begins) part.is

  due_part : (m : ℕ) → HasDriven d m s → HasOneDue d time s → 0 < m → m < d.rows → StandsDriven d (m + 1) (times_left s time) after
  due_part zero driven one some more = absurd (omega (arith, some))
  due_part (suc m) driven one some more =
      let stands : StandsDriven d (suc m + 1) (λ e. pending_after d (suc m) e (times_left s time e)) after =
      drives_one (suc m) more (λ zero. absurd (omega (arith, zero))) (begun_due d flat (suc m) time part.writes s part.process driven part.other one) in
      record { driven = stands.driven; times = stands.times }

  none_part : (m : ℕ) → HasDriven d m s → HasNoneDue d time s → StandsDriven d m (times_left s time) after
  none_part m driven none = drives_none m (begun_none d flat m time part.writes s part.process driven part.other none)

  first_part : (time ≡ 0) → DrivesNext d 0 s → 0 < d.rows → StandsDriven d 1 (λ event. Some (d.due event)) after
  first_part start next some =
      let stands : StandsDriven d (0 + 1) (λ e. pending_after d 0 e (times_left s time e)) after =
      drives_one 0 some (λ zero. start) (begun_first d flat 0 time part.writes s part.process next part.other) in
      record { driven = stands.driven; times = stands.times }

pub drives_on : DrivesOn
drives_on = record {
  due = λ d model flat time m s after part driven one some more. due_part d model flat time s after part m driven one some more;
  none = λ d model flat time m s after part driven none. none_part d model flat time s after part m driven none;
  first = λ d model flat s after part next some. first_part d model flat 0 s after part refl next some;
}
