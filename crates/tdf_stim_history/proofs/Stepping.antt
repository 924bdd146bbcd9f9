-- A delta step: the driver's cells settle, and it isn't triggered again.
use Rattle.std.proofs.Common.{◌≡◌, ℕ, zero, ◌+◌, ◌-◌, ◌<◌, true, false, ◌||◌, List, length, Option, unwrap_or, ap, sym, ◌∙◌, subst, arith}
use Rattle.std.specs.List.{list_any}
use Rattle.tdf_bind.specs.declared.model.Flat.{Flat}
use Rattle.tdf_bind_connections.specs.ProcessBlocks.{ProcessRowOf}
use Rattle.tdf_events.specs.Delta.{after_evaluation, after_update, delta_stepped, flags_from, is_next, signal_changes}
use Rattle.tdf_events.specs.Side.{SideOf, value_at}
use Rattle.tdf_events_queue.specs.Sets.{is_on}
use Rattle.tdf_events_queue.specs.Times.{pending_time}
use Rattle.tdf_lang_tree.specs.Pure.{PureTree}
use Rattle.tdf_stim_history.proofs.Evaluating.{can_keeps, off_keeps, on_drives}
use Rattle.tdf_stim_history.proofs.Lists.{cleared, emptied_long, flag_at, none_any, none_waits, on_inside, updated_at, updated_long}
use Rattle.tdf_stim_history.specs.Driver.{CanDrive, DriverOf, Drove, IsDriverProcess, KeepsPart, RunsDriver, pending_after, waiting_at}
use Rattle.tdf_stim_history.specs.Standing.{DrivesNext, HasDriven, IsDriverPart, StandsDriven}

-- before an update: the cells of the last row wait, or have settled
record WillSettle (d : DriverOf) (m : ℕ) (t : SideOf) : Type 0 where
  can : CanDrive d m t
  many : length t.waiting ≡ length t.values
  next : (x : ℕ) → d.drives x ≡ true → 0 < m → unwrap_or (waiting_at t.waiting x) (value_at t.values x) ≡ d.cell (m - 1) x

-- after the update the driver isn't triggered: it is sensitive to no signal, and no delta notification is for it
off_next : (d : DriverOf) (rows : List ProcessRowOf) (t : SideOf) → (p : IsDriverProcess d rows) → ((e : ℕ) → d.owns e ≡ true → is_on t.notices.delta e ≡ false)
    → is_on (flags_from (λ n row. is_next t row) 0 rows) d.process ≡ false
off_next d rows t p none =
    let no_event : list_any (is_on t.notices.delta) p.row.events ≡ false = none_any (is_on t.notices.delta) p.row.events (λ e there. none e (sym (p.events e) ∙ there)) in
    flag_at (λ n row. is_next t row) 0 rows d.process p.row p.at
    ∙ ap (λ (signals : List ℕ). list_any (signal_changes t) signals || list_any (is_on t.notices.delta) p.row.events) p.signals ∙ no_event

settles : (d : DriverOf) (flat : Flat) (m : ℕ) (t : SideOf) → IsDriverProcess d flat.tables.processes → WillSettle d m t → HasDriven d m (after_update flat t)
settles d flat m t p will =
    let can : CanDrive d m t = will.can in
    record {
      part = record {
        can = record {
          held = can.held;
          frame = can.frame;
          signals = λ x o. subst (λ n. x < n) (sym (emptied_long t.waiting)) (can.signals x o);
          events = can.events;
          delta = λ e o. cleared t.notices.delta e;
          first = can.first;
        };
        values = λ x o some. updated_at t.values t.waiting x (subst (λ n. x < n) will.many (can.signals x o)) ∙ will.next x o some;
        many = emptied_long t.waiting ∙ will.many ∙ sym (updated_long t.values t.waiting);
        waiting = λ x o. none_waits t.waiting x;
      };
      off = off_next d flat.tables.processes t p can.delta;
    }

will_keep : (d : DriverOf) (m : ℕ) (s t : SideOf) → IsDriverPart d m s → KeepsPart d s t → WillSettle d m t
will_keep d m s t old keeps = record {
  can = can_keeps d m s t keeps old.can;
  many = keeps.many ∙ old.many ∙ sym (ap length keeps.values);
  next = λ x o some. ap (λ w. unwrap_or w (value_at t.values x)) (keeps.waiting x o ∙ old.waiting x o) ∙ ap (λ v. value_at v x) keeps.values ∙ old.values x o some;
}

will_drive : (d : DriverOf) (m : ℕ) (s t : SideOf) → IsDriverPart d m s → Drove d m s t → WillSettle d (m + 1) t
will_drive d m s t old drove =
    let row : m ≡ m + 1 - 1 = omega arith in
    record {
      can = record {
        held = drove.held;
        frame = subst (λ n. d.owner < n) (sym drove.frames) old.can.frame;
        signals = λ x o. subst (λ n. x < n) (sym drove.many) (old.can.signals x o);
        events = λ e o. subst (λ n. e < n) (sym drove.events) (old.can.events e o);
        delta = λ e o. drove.delta e o ∙ old.can.delta e o;
        first = λ zero e o. absurd (omega (arith, zero));
      };
      many = drove.many ∙ old.many ∙ sym (ap length drove.values);
      next = λ x o some. ap (λ w. unwrap_or w (value_at t.values x)) (drove.waiting x o) ∙ ap (λ k. d.cell k x) row;
    }

module _ (d : DriverOf) (model : PureTree) (flat : Flat) (runs : RunsDriver d model flat) (process : IsDriverProcess d flat.tables.processes) (time : ℕ) where
  -- a step of the others
  pub step_off : (m : ℕ) (pending : ℕ → Option ℕ) (s : SideOf) → StandsDriven d m pending s → StandsDriven d m pending (delta_stepped model flat time s)
  unfolding delta_stepped
  step_off m pending s stands =
      let keeps : KeepsPart d s (after_evaluation model flat time s) = off_keeps d model flat runs time s.triggered (length s.triggered) s stands.driven.off in
      record {
        driven = settles d flat m (after_evaluation model flat time s) process (will_keep d m s (after_evaluation model flat time s) stands.driven.part keeps);
        times = λ e o. keeps.times e o ∙ stands.times e o;
      }

  -- a step in which the driver runs
  pub step_on : (m : ℕ) (s : SideOf) → m < d.rows → (m ≡ 0 → time ≡ 0) → DrivesNext d m s
      → StandsDriven d (m + 1) (λ e. pending_after d m e (pending_time s.notices.times e)) (delta_stepped model flat time s)
  unfolding delta_stepped
  step_on m s more first next =
      let drove : Drove d m s (after_evaluation model flat time s) = on_drives d model flat runs time s.triggered next.on m more first (length s.triggered) s (on_inside s.triggered d.process next.on) next.part.can in
      record {
        driven = settles d flat (m + 1) (after_evaluation model flat time s) process (will_drive d m s (after_evaluation model flat time s) next.part drove);
        times = drove.times;
      }
