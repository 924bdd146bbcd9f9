-- What callers need beside the calls.
use Rattle.std.proofs.Common.{◌≡◌, ℕ, ◌-◌, ◌+◌, ◌≤◌, Bool, true, false, if◌then◌else◌, Option, Some, None, List, [], length, slice_get, refl, ap, sym, ◌∙◌, inl, inr, arith}
use Rattle.std.proofs.lemmas.Bool.{cases_eq, cases_lt, ne_eqb}
use Rattle.tdf_trace.proofs.Firsts.{full, within}
use Rattle.tdf_trace.proofs.Manies.{label_of}
use Rattle.tdf_trace.proofs.ColumnPlaces.{alike, some_same}
use Rattle.tdf_trace.specs.Calls.{HasStarted, Holds}
use Rattle.tdf_trace.specs.Tracked.{AreSince, TrackedOf, label}
use Rattle.tdf_trace.specs.Tracks.{AreTracked, Tracks, known_by}
use Rattle.tdf_trace.specs.Traces.{IsTrackingOf, sample_or, with_signal_samples}
use Rattle.tdf_fixed.specs.declared.raw.Raw.{Raw}
use Rattle.tdf_trace_rows.specs.Noted.{is_cell_of, with_noted_cell}
use Rattle.tdf_trace_rows.specs.Positions.{Span, position_at, count_of_spans}
use Rattle.tdf_trace_rows.specs.Rows.{Cells}
use Rattle.tdf_trace_rows.specs.declared.cell.Cell.{Cell}
use Rattle.tdf_trace.proofs.Alike.{stands_alike}
use Rattle.tdf_trace.specs.Stands.{RowsSeen, Stands, TakesCell}
use Rattle.tdf_bind_connections.specs.declared.traces.TraceRow.{TraceRow}

-- the positions that are left are those without a sample
pub left_is : (spans : List Span) (samples : List Raw) (t : TrackedOf) → Tracks spans samples t → t.stamps.left ≡ count_of_spans spans - length samples
left_is spans samples t k =
    let w : count_of_spans spans ≡ k.done + t.stamps.left = k.stamping.whole in
    let l : k.done ≤ length samples = within spans samples t k in
    elim (cases_lt 0 t.stamps.left) [
      | inl more ↦ (let f : k.done ≡ length samples = full spans samples t k more in omega (arith, w, f))
      | inr none ↦ omega (arith, w, l, none)
    ]

-- before the first period and sample, cells that have none in the columns of samples
pub holds_fresh : (traces : List TraceRow) (cells : Cells) (list : List TrackedOf) (rows : RowsSeen) → IsTrackingOf traces list → AreTracked (λ signal. []) (λ signal. []) list
    → ((column : ℕ) (row : TraceRow) → slice_get traces column ≡ Some row → row.event ≡ false → (time : ℕ) → cells.at column time ≡ None)
    → Stands cells rows → Holds traces cells (λ signal. []) (λ signal. []) list rows
unfolding position_at
holds_fresh traces cells list rows of tracked none stands = record {
  of = of;
  tracked = tracked;
  stands = stands_alike cells (with_signal_samples traces cells (known_by (λ signal. []) (λ signal. []))) rows
      (λ below. record { columns = refl; first = λ c less. refl; cells = λ c s inside low. same c s (slice_get traces c) refl }) stands;
}
  where
    same : (c s : ℕ) (o : Option TraceRow) → slice_get traces c ≡ o → cells.at c s ≡ sample_or o (λ k. known_by (λ signal. []) (λ signal. []) k s) (cells.at c s)
    same c s None e = refl
    same c s (Some row) e = go row.event refl
      where
        go : (b : Bool) → row.event ≡ b → cells.at c s ≡ (if b then cells.at c s else known_by (λ signal. []) (λ signal. []) row.signal s)
        go true is = refl
        go false is = none c row e is s

-- a cell more in the column of an event signal
pub holds_event : (traces : List TraceRow) (cells : Cells) (spans : ℕ → List Span) (samples : ℕ → List Raw) (list : List TrackedOf) (cell : Cell) (row : TraceRow) (before after : RowsSeen)
    → slice_get traces cell.column ≡ Some row → row.event ≡ true → TakesCell cell before after → Holds traces cells spans samples list before → Holds traces (with_noted_cell cells cell) spans samples list after
holds_event traces cells spans samples list cell row before after at event took h = record {
  of = h.of;
  tracked = h.tracked;
  stands = stands_alike (with_noted_cell (with_signal_samples traces cells (known_by spans samples)) cell) (with_signal_samples traces (with_noted_cell cells cell) (known_by spans samples)) after
      (λ below. record { columns = refl; first = λ c less. refl; cells = λ c s inside low. same c s }) (took (with_signal_samples traces cells (known_by spans samples)) h.stands);
}
  where
    here : (o : Option TraceRow) (f : ℕ → Option (Option Raw)) (other : Option (Option Raw)) → o ≡ Some row → sample_or o f other ≡ other
    here o f other e = ap (λ r. sample_or r f other) e ∙ ap (λ (b : Bool). if b then other else f row.signal) event

    same : (c s : ℕ) → (if is_cell_of cell c s then Some cell.value else sample_or (slice_get traces c) (λ k. known_by spans samples k s) (cells.at c s))
        ≡ sample_or (slice_get traces c) (λ k. known_by spans samples k s) (if is_cell_of cell c s then Some cell.value else cells.at c s)
    same c s = elim (cases_eq cell.column c) [
      | inl is ↦ (let e : slice_get traces c ≡ Some row = ap (slice_get traces) (sym is) ∙ at in
          ap (λ (x : Option (Option Raw)). if is_cell_of cell c s then Some cell.value else x) (here (slice_get traces c) (λ k. known_by spans samples k s) (cells.at c s) e)
          ∙ sym (here (slice_get traces c) (λ k. known_by spans samples k s) (if is_cell_of cell c s then Some cell.value else cells.at c s) e))
      | inr apart ↦ rw (ne_eqb cell.column c apart) refl
    ]

-- what has not begun a period is as before
pub started_back : (signal start : ℕ) (old new : List TrackedOf) (place : ℕ) (t : TrackedOf) → HasStarted signal start old new → (t.signal ≡ signal → ⊥) → slice_get new place ≡ Some t → slice_get old place ≡ Some t
started_back signal start old new place t started apart at =
    let x = alike label new old place t started.labels at in
    let s : x.0.signal ≡ t.signal = (label_of t x.0 x.2).0 in
    let e : x.0 ≡ t = some_same x.0 t (sym (started.others place x.0 (λ k. apart (sym s ∙ k)) x.1) ∙ at) in
    x.1 ∙ ap Some e

pub started_since : (signal start upto : ℕ) (old new : List TrackedOf) → HasStarted signal start old new → upto ≤ start → AreSince upto old → AreSince upto new
started_since signal start upto old new started low since place t at more = elim (cases_eq t.signal signal) [
  | inl same ↦ (let e : start ≤ t.stamps.time = started.from place t at same in omega (arith, e, low))
  | inr apart ↦ since place t (started_back signal start old new place t started apart at) more
]
