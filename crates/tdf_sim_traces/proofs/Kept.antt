-- What is shown stays so.
use Rattle.std.proofs.Common.{◌≡◌, ◌∙◌, ℕ, ◌+◌, ◌<◌, ◌≤◌, ◌⊎◌, Bool, true, false, ◌&&◌, nat_eq, if◌then◌else◌, Option, Some, None, List, length, slice_get, refl, ap, sym, subst, inl, inr, arith}
use Rattle.std.proofs.lemmas.Bool.{cases_lt, eq-eqb, eqb-true, le-ltb, lt-ltb}
use Rattle.std.proofs.lemmas.Bool.Decides.{Decides-int_eq}
use Rattle.std.specs.List.{list_any}
use Rattle.std.specs.Ordering.{int_eq}
use Rattle.tdf_trace.proofs.Api.{left_is}
use Rattle.tdf_fixed.specs.declared.raw.Raw.{Raw}
use Rattle.tdf_sim_history.specs.Cells.{cell_or, changed_cell, event_cell, event_column_cell, is_same_value}
use Rattle.tdf_sim_history.specs.Columns.{start_of}
use Rattle.tdf_trace_rows.specs.Laws.{Agree}
use Rattle.tdf_trace_rows.specs.Positions.{count_of_spans}
use Rattle.tdf_sim_traces.proofs.Items.{true_false}
use Rattle.tdf_sim_traces.proofs.Noting.{holds_cells}
use Rattle.tdf_sim_traces.proofs.Pushing.{any_found, any_here}
use Rattle.tdf_sim_traces.specs.Events.{AreEventColumns, event_before, events_before, value_of, values_before}
use Rattle.tdf_sim_traces.specs.Laws.{LaterIsShown, RowsMayBeWritten, WrittenIsShown}
use Rattle.tdf_sim_traces.specs.declared.signals.TracedSignal.{TracedSignal}
use Rattle.tdf_trace.specs.Writings.{AboutSeen}
use Rattle.tdf_bind_connections.specs.declared.traces.TraceRow.{TraceRow}
use Rattle.tdf_sim_history.specs.Rules.{rules_of}

-- rows
pub written_is_shown : WrittenIsShown
written_is_shown model flat start w from s trace shown stands about = record {
  spans = shown.spans;
  samples = shown.samples;
  holds = record { of = shown.holds.of; tracked = shown.holds.tracked; stands = stands _ shown.holds.stands };
  signals = shown.signals;
  each = shown.each;
  none = shown.none;
  events = shown.events;
  stamped = shown.stamped;
  begun = shown.begun;
  width = shown.width;
  columns = ap (λ (a : AboutSeen). length a.variables) about ∙ shown.columns;
}

-- a signal is listed or not
pub listed_or : (list : List TracedSignal) (signal : ℕ) → ((k : ℕ) × (t : TracedSignal) × (slice_get list k ≡ Some t) × (t.signal ≡ signal)) ⊎ ((k : ℕ) (t : TracedSignal) → slice_get list k ≡ Some t → t.signal ≡ signal → ⊥)
listed_or list signal = go (list_any (λ (t : TracedSignal). nat_eq t.signal signal) list) refl
  where
    go : (b : Bool) → list_any (λ (t : TracedSignal). nat_eq t.signal signal) list ≡ b
        → ((k : ℕ) × (t : TracedSignal) × (slice_get list k ≡ Some t) × (t.signal ≡ signal)) ⊎ ((k : ℕ) (t : TracedSignal) → slice_get list k ≡ Some t → t.signal ≡ signal → ⊥)
    go true is = let f = any_found (λ (t : TracedSignal). nat_eq t.signal signal) list is in inl (f.0, f.1, f.2, eqb-true f.1.signal signal f.3)
    go false is = inr (λ k t there same. absurd (let e = any_here (λ (x : TracedSignal). nat_eq x.signal signal) list k t there (eq-eqb t.signal signal same) in true_false (sym e ∙ is)))

pub rows_may_be_written : RowsMayBeWritten
unfolding count_of_spans
rows_may_be_written model flat start w from mark s shown late place u there more = elim (listed_or s.signals.items u.signal) [
  | inl f ↦ (
      let l = shown.signals.are f.0 f.1 f.2 in
      let x = shown.each f.1.cluster f.1.port l.port l.drives in
      let e = x.next place u there (sym f.3 ∙ l.signal_is) more in
      let m = late f.1.cluster x.cluster x.there in omega (arith, e, m))
  | inr unlisted ↦ absurd (
      let l = left_is (shown.spans u.signal) (shown.samples u.signal) u (shown.holds.tracked place u there) in
      let n : count_of_spans (shown.spans u.signal) ≡ 0 = ap count_of_spans (shown.none u.signal unlisted) in omega (arith, l, n, more))
]

-- a value is the same as itself
same_value : (v : Raw) → is_same_value v v ≡ true
same_value v = both (int_eq v.num v.num) (nat_eq v.frac v.frac) ((Decides-int_eq v.num v.num).1 refl) (eq-eqb v.frac v.frac refl)
  where
    both : (p q : Bool) → p ≡ true → q ≡ true → (p && q) ≡ true
    both p q x y = ap (λ (b : Bool). b && q) x ∙ y

pub no_change : (v w : Raw) → w ≡ v → changed_cell v w ≡ None
no_change v w same = ap (changed_cell v) same ∙ ap (λ (b : Bool). if b then None else Some (Some v)) (same_value v)

pub later_is_shown : LaterIsShown
later_is_shown model flat start w from time s shown later same = record {
  spans = shown.spans;
  samples = shown.samples;
  holds = holds_cells flat.tables.traces (events_before model flat start from) (events_before model flat start time) shown.spans shown.samples s.tracking.list s.trace.rows agree shown.holds;
  signals = shown.signals;
  each = shown.each;
  none = shown.none;
  events = subst (λ (l : List Raw). AreEventColumns flat.tables.traces l s.events.items) (sym (same time later (omega arith))) shown.events;
  stamped = λ column row at event t low. shown.stamped column row at event t (omega (arith, later, low));
  begun = λ n h there. (let b = shown.begun n h there in record { early = (let e = b.early in omega (arith, e, later)); after_old = b.after_old });
  width = shown.width;
  columns = shown.columns;
}
  where
    quiet : (row : TraceRow) (t : ℕ) → from ≤ t → t < time → event_cell model flat (rules_of model flat) start row.signal t ≡ None
    quiet row t low high = no_change (value_of (values_before model flat start t) row.signal) (value_of (values_before model flat start (t + 1)) row.signal)
        (ap (λ l. value_of l row.signal) (same (t + 1) (omega (arith, low)) (omega (arith, high)) ∙ sym (same t low (omega (arith, high)))))

    cell : (c t : ℕ) (o : Option TraceRow) → slice_get flat.tables.traces c ≡ o → event_before model flat start from t (start_of start.shown c) o ≡ event_before model flat start time t (start_of start.shown c) o
    cell c t None at = refl
    cell c t (Some row) at = elim (cases_lt t from) [
      | inl low ↦ ap (λ (b : Bool). if row.event && b then event_column_cell model flat (rules_of model flat) start (start_of start.shown c) row.signal t else None) (lt-ltb t from low ∙ sym (lt-ltb t time (omega (arith, low, later))))
      | inr high ↦ elim (cases_lt t time) [
        | inr past ↦ ap (λ (b : Bool). if row.event && b then event_column_cell model flat (rules_of model flat) start (start_of start.shown c) row.signal t else None) (le-ltb t from high ∙ sym (le-ltb t time past))
        | inl below ↦ rw (le-ltb t from high, lt-ltb t time below) (both row.event (λ event. ap (λ o. cell_or o (event_cell model flat (rules_of model flat) start row.signal t)) (shown.stamped c row at event t high) ∙ quiet row t high below))
      ]
    ]
      where
        shown_here : Option (Option Raw)
        shown_here = event_column_cell model flat (rules_of model flat) start (start_of start.shown c) row.signal t

        both : (b : Bool) → (b ≡ true → shown_here ≡ None) → (if b && false then shown_here else None) ≡ (if b && true then shown_here else None)
        both true none = sym (none refl)
        both false none = refl

    agree : (below : ℕ) → Agree (events_before model flat start from) (events_before model flat start time) below
    agree below = record { columns = refl; first = λ c inside. refl; cells = λ c t inside low. cell c t (slice_get flat.tables.traces c) refl }
