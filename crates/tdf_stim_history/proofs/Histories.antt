-- A history: the driver goes from row to row.
use Rattle.std.proofs.Common.{◌≡◌, ℕ, zero, suc, ◌+◌, ◌-◌, ◌<◌, Bool, true, false, ◌||◌, not, if◌then◌else◌, length, replicate, Option, Some, None, slice_index_or, refl, ap, sym, ◌∙◌, subst, inl, inr, arith}
use Rattle.std.proofs.lemmas.Bool.{cases_eq, cases_lt, true≢false}
use Rattle.std.proofs.lemmas.List.{length-map, length-replicate}
use Rattle.std.proofs.lemmas.Option.{slice_get-get_or}
use Rattle.std.specs.List.{list_any}
use Rattle.tdf_bind.specs.declared.model.Flat.{Flat}
use Rattle.tdf_bind_connections.specs.declared.drivers.SignalRow.{SignalRow}
use Rattle.tdf_events.specs.Delta.{is_due, is_idle}
use Rattle.tdf_events.specs.Side.{SideOf, start_side}
use Rattle.tdf_events_queue.specs.Sets.{is_on}
use Rattle.tdf_events_queue.specs.Times.{pending_time}
use Rattle.tdf_fixed.specs.declared.raw.Raw.{Raw}
use Rattle.tdf_lang_tree.specs.Pure.{PureTree}
use Rattle.tdf_sim_history.specs.History.{Fault, Going, HistoryState, On, Past, Spent, Step, Stopped, after, history, state_of}
use Rattle.tdf_sim_history.specs.Instant.{RunFault, instant, is_cluster_due}
use Rattle.tdf_sim_history.specs.Rules.{is_side_due, rules_of, start_world, world_engine}
use Rattle.tdf_sim_history.specs.World.{World}
use Rattle.tdf_stim_history.proofs.Instants.{instants_do_the_side}
use Rattle.tdf_stim_history.proofs.Lists.{due_found, or_true}
use Rattle.tdf_stim_history.proofs.Parts.{drives_on, due_itself, not_due, not_idle}
use Rattle.tdf_stim_history.proofs.Rows.{first_before, last_row, none_at_time, pending_before, pending_is_due, pending_next, row_due, row_none}
use Rattle.tdf_stim_history.specs.Driver.{DriverOf, DrivesAlways, StartsDriver}
use Rattle.tdf_stim_history.specs.Laws.{Done, DriverPart, HasSideDone, HistoryDrives, Still, times_left}
use Rattle.tdf_stim_history.specs.Rows.{AreRowsBefore, HasOwnRow, HasRowTimes, IsDrivenTo, IsEventOf, ShowsRow, pending_at}
use Rattle.tdf_stim_history.specs.Standing.{DrivesNext, HasDriven, HasNoneDue, HasOneDue, IsDriverPart, StandsDriven, left_after}

none_there : {A : Type 0} (x : A) (n e : ℕ) → slice_index_or (replicate n x) e x ≡ x
none_there x zero e = refl
none_there x (suc n) zero = refl
none_there x (suc n) (suc e) = none_there x n e

abbrev nothing : Option Raw
nothing = None

abbrev no_time : Option ℕ
no_time = None

-- before the first instant
pub starts_driver : (d : DriverOf) (flat : Flat) → StartsDriver d flat → DrivesNext d 0 (start_side flat)
starts_driver d flat starts = record {
  part = record {
    can = record {
      held = starts.held;
      frame = subst (λ n. d.owner < n) (sym (length-map flat.tables.blocks _)) starts.owner;
      signals = λ x o. subst (λ n. x < n) (sym (length-replicate (length flat.tables.de_signals) nothing)) (starts.signals x o);
      events = λ e o. subst (λ n. e < n) (sym (length-replicate (length flat.tables.events) no_time)) (starts.events e o);
      delta = λ e o. none_there false (length flat.tables.events) e;
      first = λ zero e o. none_there no_time (length flat.tables.events) e;
    };
    values = λ x o some. absurd (omega (arith, some));
    many = length-replicate (length flat.tables.de_signals) nothing ∙ sym (length-map flat.tables.de_signals (λ (row : SignalRow). row.start));
    waiting = λ x o. none_there nothing (length flat.tables.de_signals) x;
  };
  on = starts.starts;
}

-- something of the side is due where a process is triggered or a pending time has come
triggered_due : (s : SideOf) (time p : ℕ) → is_on s.triggered p ≡ true → is_side_due s time ≡ false → ⊥
triggered_due s time p on quiet = go (is_idle s) refl
  where
    go : (b : Bool) → is_idle s ≡ b → ⊥
    go true idle = not_idle s p on idle
    go false busy = true≢false (sym (ap (λ b. not b || list_any (is_due time) s.notices.times) busy) ∙ quiet)

pending_due : (s : SideOf) (time e : ℕ) → pending_time s.notices.times e ≡ Some time → is_side_due s time ≡ false → ⊥
pending_due s time e pending quiet =
    let found : list_any (is_due time) s.notices.times ≡ true = due_found time s.notices.times e (ap (is_due time) pending ∙ due_itself time) in
    true≢false (sym (ap (λ b. not (is_idle s) || b) found ∙ or_true (not (is_idle s))) ∙ quiet)

or_second : (a b : Bool) → (a || b) ≡ false → b ≡ false
or_second true b h = absurd (cc)
or_second false b h = h

abbrev SideState : Type 0
SideState = HistoryState (World SideOf) RunFault

on_same : (u v : World SideOf) → ◌≡◌ {A = SideState} (On u) (On v) → u ≡ v
on_same u v is = cc

state_going : (time : ℕ) (x : Step (World SideOf) RunFault) (v : World SideOf) → state_of time x ≡ On v → x ≡ Going v
state_going time (Going u) v is = ap Going (on_same u v is)
state_going time (Fault fault u) v is = absurd (let clash : ◌≡◌ {A = SideState} (Stopped time fault u) (On v) = is in cc)
state_going time (Past u) v is = absurd (let clash : ◌≡◌ {A = SideState} (Spent time u) (On v) = is in cc)

module _ (d : DriverOf) (model : PureTree) (flat : Flat) (driver : DrivesAlways d model flat) (has : HasRowTimes d) where
  -- one time of a history that goes on
  one_time : (time : ℕ) (w v : World SideOf) (b : Bool) → (world_engine model flat).is_due w time ≡ b
      → (if b then state_of time (instant model flat (rules_of model flat) time w) else On w) ≡ On v → HasSideDone d model flat time w.events v.events
  one_time time w v true due is = instants_do_the_side d model flat time w v driver.sinks (state_going time (instant model flat (rules_of model flat) time w) v is)
  one_time time w v false due is = Still (or_second (list_any (is_cluster_due time) w.clusters) (is_side_due w.events time) due) (sym (ap (λ (u : World SideOf). u.events) (on_same w v is)))

  was_on : (time : ℕ) (x : SideState) (v : World SideOf) → after (world_engine model flat) time x ≡ On v → (w : World SideOf) × (x ≡ On w) × HasSideDone d model flat time w.events v.events
  was_on time (On w) v is = (w, refl, one_time time w v ((world_engine model flat).is_due w time) refl is)
  was_on time (Stopped at fault w) v is = absurd (let clash : ◌≡◌ {A = SideState} (Stopped at fault w) (On v) = is in cc)
  was_on time (Spent at w) v is = absurd (let clash : ◌≡◌ {A = SideState} (Spent at w) (On v) = is in cc)

  as_part : (time : ℕ) (s t : SideOf) → HasSideDone d model flat time s t → (is_side_due s time ≡ false → ⊥) → DriverPart d model flat time s t
  as_part time s t (Still quiet same) busy = absurd (busy quiet)
  as_part time s t (Done writes other left rest is) busy = record {
    runs = driver.runs;
    process = driver.process;
    writes = writes;
    other = other;
    left = left;
    rest = rest;
    is = is;
  }

  -- the first instant
  first_time : (s t : SideOf) → DrivesNext d 0 s → HasSideDone d model flat 0 s t → IsDrivenTo d 1 t
  first_time s t next done =
      let stands : StandsDriven d 1 (λ e. Some (d.due e)) t = drives_on.first d model flat s t (as_part 0 s t done (triggered_due s 0 d.process next.on)) next has.some in
      record {
        m = 1;
        rows = first_before d has;
        stands = record {
          driven = stands.driven;
          times = λ e o. (let row : HasOwnRow d e = has.row e o in let less = row.within in let late = has.rising 0 row.row row.later less in let due = row.due in
              stands.times e o ∙ sym (pending_before d 1 e (omega (arith, late, due))));
        };
      }

  -- the row after those before is at the time
  due_time : (time m : ℕ) (s t : SideOf) → AreRowsBefore d time m → StandsDriven d m (pending_at d time) s → m < d.rows → d.time m ≡ time → HasSideDone d model flat time s t → IsDrivenTo d (time + 1) t
  due_time time m s t rows stands more here done =
      let event = has.event m rows.some more in
      let e : ℕ = event.0 in
      let of_row : IsEventOf d m e = event.1 in
      let at : d.due e ≡ time = of_row.due ∙ here in
      let pending : pending_time s.notices.times e ≡ Some time = stands.times e of_row.own ∙ pending_before d time e (omega (arith, at)) ∙ ap Some at in
      let one : HasOneDue d time s = record { event = e; own = of_row.own; due = pending } in
      let next : StandsDriven d (m + 1) (times_left s time) t = drives_on.due d model flat time m s t (as_part time s t done (pending_due s time e pending)) stands.driven one rows.some more in
      record {
        m = m + 1;
        rows = row_due d time m has rows more here;
        stands = record {
          driven = next.driven;
          times = λ x o. next.times x o ∙ ap (left_after time) (stands.times x o) ∙ pending_next d time x;
        };
      }

  still_stands : (time m : ℕ) (s t : SideOf) → HasDriven d m s → HasNoneDue d time s → HasSideDone d model flat time s t → StandsDriven d m (times_left s time) t
  still_stands time m s t driven none (Still quiet same) = subst (λ (x : SideOf). StandsDriven d m (times_left s time) x) (sym same) (record {
    driven = driven;
    times = λ e o. sym (ap (λ b. if b then None else pending_time s.notices.times e) (not_due time (pending_time s.notices.times e) (none e o)));
  })
  still_stands time m s t driven none (Done writes other left rest is) = drives_on.none d model flat time m s t (record {
    runs = driver.runs;
    process = driver.process;
    writes = writes;
    other = other;
    left = left;
    rest = rest;
    is = is;
  }) driven none

  -- no row is at the time
  other_time : (time m : ℕ) (s t : SideOf) → AreRowsBefore d time m → StandsDriven d m (pending_at d time) s → (m < d.rows → d.time m ≡ time → ⊥) → HasSideDone d model flat time s t → IsDrivenTo d (time + 1) t
  other_time time m s t rows stands never done =
      let none_at = none_at_time d time m has rows never in
      let none : HasNoneDue d time s = λ e o pending. (let row : HasOwnRow d e = has.row e o in
      none_at row.row row.within (sym row.due ∙ pending_is_due d time e (sym (stands.times e o) ∙ pending))) in
      let next : StandsDriven d m (times_left s time) t = still_stands time m s t stands.driven none done in
      record {
        m = m;
        rows = row_none d time m rows none_at;
        stands = record {
          driven = next.driven;
          times = λ x o. next.times x o ∙ ap (left_after time) (stands.times x o) ∙ pending_next d time x;
        };
      }

  next_time : (time : ℕ) (s t : SideOf) → IsDrivenTo d time s → HasSideDone d model flat time s t → IsDrivenTo d (time + 1) t
  next_time time s t to done = elim (cases_lt to.m d.rows) [
    | inl more ↦ elim (cases_eq (d.time to.m) time) [
      | inl here ↦ due_time time to.m s t to.rows to.stands more here done
      | inr apart ↦ other_time time to.m s t to.rows to.stands (λ less here. apart here) done
    ]
    | inr past ↦ other_time time to.m s t to.rows to.stands (λ less here. omega (arith, less, past)) done
  ]

  module _ (start : World SideOf) (begins : DrivesNext d 0 start.events) where
    driven_to : (time : ℕ) (v : World SideOf) → history (world_engine model flat) 0 start (suc time) ≡ On v → IsDrivenTo d (time + 1) v.events
    unfolding history
    driven_to zero v is =
        let found = was_on 0 (On start) v is in
        first_time start.events v.events begins (subst (λ (w : World SideOf). HasSideDone d model flat 0 w.events v.events) (sym (on_same start found.0 found.1)) found.2)
    driven_to (suc time) v is =
        let found = was_on (0 + suc time) (history (world_engine model flat) 0 start (suc time)) v is in
        let f : 0 + suc time ≡ time + 1 = omega arith in
        let g : time + 1 + 1 ≡ suc time + 1 = omega arith in
        subst (λ n. IsDrivenTo d n v.events) g (next_time (time + 1) found.0.events v.events (driven_to time found.0 found.1)
        (subst (λ n. HasSideDone d model flat n found.0.events v.events) f found.2))

  shows : (time : ℕ) (s : SideOf) → IsDrivenTo d (time + 1) s → ShowsRow d s.values time
  shows time s to = record {
    row = to.m - 1;
    last = last_row d time to.m to.rows;
    cells = λ x o. (let part : IsDriverPart d to.m s = to.stands.driven.part in
        slice_get-get_or s.values x _ (subst (λ n. x < n) part.many (part.can.signals x o)) ∙ ap Some (part.values x o to.rows.some));
  }

pub history_drives : HistoryDrives
history_drives d model flat firsts ahead turns time w driver has is =
    let e : time + 1 ≡ suc time = omega arith in
    let later : history (world_engine model flat) 0 (start_world model flat firsts ahead turns) (suc time) ≡ On w = ap (history (world_engine model flat) 0 (start_world model flat firsts ahead turns)) (sym e) ∙ is in
    shows d model flat driver has time w.events (driven_to d model flat driver has (start_world model flat firsts ahead turns) (starts_driver d flat driver.starts) time w later)
