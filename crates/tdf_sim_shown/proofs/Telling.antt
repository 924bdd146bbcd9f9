-- The window of a traced signal, by a cluster in progress and by that of a history.
use Rattle.std.proofs.Common.{◌≡◌, ◌∙◌, ◌<◌, ◌+◌, ◌-◌, ◌*◌, ℕ, zero, suc, Bool, true, false, if◌then◌else◌, Option, Some, None, option_map, List, [], ◌∷◌, ◌++◌, length, map, min, take, slice_get, slice_index, refl, sym, ap, subst, arith}
use Rattle.std.proofs.Math.Seq.{take-length}
use Rattle.std.proofs.lemmas.List.{length_push, map-append, take_more}
use Rattle.std.proofs.lemmas.Option.{get_or_from_slice_get, slice_get_within}
use Rattle.std.specs.Option.{option_and_then}
use Rattle.std.specs.Prelude.{IfSome}
use Rattle.tdf_bind.specs.declared.model.Flat.{Flat}
use Rattle.tdf_bind_connections.specs.declared.traces.TraceRow.{TraceRow}
use Rattle.tdf_dynamic_plans.specs.Attributes.{clusters_of}
use Rattle.tdf_lang_tree.specs.Pure.{PureTree}
use Rattle.tdf_saved.specs.State.{ColumnStateOf}
use Rattle.tdf_schedule.specs.Plan.{done}
use Rattle.tdf_sim_history.specs.Cells.{driver_of_row}
use Rattle.tdf_sim_history.specs.World.{ClusterAt}
use Rattle.tdf_sim_resumed.specs.Below.{ClusterOf, IsAt}
use Rattle.tdf_sim_resumed.specs.Starting.{Tracked, first_unknown, known_count, least_within, tracked_of, tracked_port, tracked_signal}
use Rattle.tdf_sim_resumed.specs.Valid.{IsValidTracked}
use Rattle.tdf_sim_traces.proofs.Api.{span_is}
use Rattle.tdf_sim_traces.specs.Periods.{ClockAt, row_rate, span_in}
use Rattle.tdf_sim_traces.specs.Signals.{IsListed, IsTracedAt, driven_of}
use Rattle.tdf_sim_traces.specs.declared.signals.TracedSignal.{TracedSignal}
use Rattle.tdf_sim_shown.specs.machine.Windows.{AreWindowsOf, AreWindowsTo, HasRoom, HaveRoom, IsSamplesBy, IsWindowAt, first_missing, row_delay, window_by, window_in}
use Rattle.tdf_streams.proofs.Api.{get_inside, none_some, some_same}
use Rattle.tdf_streams.specs.Signals.{positions, step_in}
use Rattle.tdf_trace_rows.specs.Positions.{Span, span_of}
use Rattle.tdf_trace_states.specs.declared.windows.Window.{Window}

module _ (flat : Flat) (row : TraceRow) where
  abbrev driven_by : Option ℕ → Option ℕ
  driven_by o = option_map (λ (number : ℕ). row.signal) o

  abbrev driver : Option ℕ
  driver = driver_of_row (slice_get flat.tables.signals row.signal)

  plainly : (b : Bool) → row.event ≡ b → driven_of flat.tables row ≡ (if b then None else driven_by driver)
  plainly b is = ap (λ (e : Bool). if e then None else driven_by driver) is

  -- a trace that shows no signal that a port drives has none tracked
  pub none_tracked : (clusters : List ClusterAt) → driven_of flat.tables row ≡ None → tracked_of flat.tables clusters row ≡ None
  none_tracked clusters none = by_event row.event refl
    where
      undriven : (o : Option ℕ) → driven_by o ≡ None → o ≡ None
      undriven None is = refl
      undriven (Some number) is = absurd (none_some row.signal (sym is))

      by_event : (b : Bool) → row.event ≡ b → tracked_of flat.tables clusters row ≡ None
      by_event true event = ap (λ (e : Bool). if e then None else tracked_signal flat.tables clusters row.signal) event
      by_event false plain =
          ap (λ (e : Bool). if e then None else tracked_signal flat.tables clusters row.signal) plain
          ∙ ap (λ o. option_and_then (tracked_port flat.tables clusters) (option_and_then (slice_get flat.tables.ports) o)) (undriven driver (sym (plainly false plain) ∙ none))

  driven_parts : (signal : ℕ) → driven_of flat.tables row ≡ Some signal → (row.event ≡ false) × (row.signal ≡ signal)
  driven_parts signal is = by_event row.event refl
    where
      by_driver : (o : Option ℕ) → driven_by o ≡ Some signal → row.signal ≡ signal
      by_driver None none_is = absurd (none_some signal none_is)
      by_driver (Some number) same = some_same row.signal signal same

      by_event : (b : Bool) → row.event ≡ b → (row.event ≡ false) × (row.signal ≡ signal)
      by_event true event = absurd (none_some signal (sym (plainly true event) ∙ is))
      by_event false plain = (plain, by_driver driver (sym (plainly false plain) ∙ is))

  module _ (t : TracedSignal) (l : IsListed flat t) (shows : driven_of flat.tables row ≡ Some t.signal) (clusters : List ClusterAt) (h : ClusterAt) (h_at : slice_get clusters t.cluster ≡ Some h) where
    parts : (row.event ≡ false) × (row.signal ≡ t.signal)
    parts = driven_parts t.signal shows

    pub tracked_is : tracked_of flat.tables clusters row ≡ Some (record { port = l.port; cluster = h })
    tracked_is =
        ap (λ (b : Bool). if b then None else tracked_signal flat.tables clusters row.signal) parts.0
        ∙ ap (tracked_signal flat.tables clusters) (parts.1 ∙ l.signal_is)
        ∙ ap (λ o. option_and_then (tracked_port flat.tables clusters) (option_and_then (slice_get flat.tables.ports) o)) l.drives.driver
        ∙ ap (option_and_then (tracked_port flat.tables clusters)) l.drives.traced.there
        ∙ ap (option_map (λ (d : ClusterAt). record { port = l.port; cluster = d })) (
        let inside = l.drives.traced.inside in
        let e : slice_index (clusters_of flat.tables) l.port.«module» - 1 ≡ t.cluster = omega (arith, inside) in ap (slice_get clusters) e ∙ h_at)

-- what a cluster in progress says of a traced signal is what that of the history says
module _ (model : PureTree) (flat : Flat) (t : TracedSignal) (l : IsListed flat t) (since : ℕ) (h : ClusterAt) (c : ClusterOf) (is : IsAt model flat (t.cluster + 1) h c) (begun : since ≡ h.since) where
  span : span_in flat.tables 0 c t ≡ span_of 0 (step_in l.port h.now) (positions l.port h.now)
  span = span_is l.port model flat t.cluster t.port l.drives h c t is refl l.module_is 0

  pub positions_are : (span_in flat.tables 0 c t).count ≡ positions l.port h.now
  positions_are = ap (λ (z : Span). z.count) span

  known : row_delay (slice_get flat.tables.ports t.port) + done c.entries c.place t.«module» * row_rate c.table (slice_get flat.tables.ports t.port) ≡ known_count (record { port = l.port; cluster = h })
  known =
      ap (λ o. row_delay o + done c.entries c.place t.«module» * row_rate c.table o) l.drives.traced.there
      ∙ ap (λ es. l.port.delay + done es c.place t.«module» * row_rate c.table (Some l.port)) is.entries_are
      ∙ ap (λ k. l.port.delay + done h.entries k t.«module» * row_rate c.table (Some l.port)) is.place_is
      ∙ ap (λ m. l.port.delay + done h.entries h.place m * row_rate c.table (Some l.port)) l.module_is
      ∙ ap (λ table. l.port.delay + done h.entries h.place l.port.«module» * row_rate table (Some l.port)) is.table_is

  pub window_same : window_in flat.tables since c t ≡ window_by (record { port = l.port; cluster = h })
  window_same = λ i. record { since = begun i; step = (span i).step; count = (span i).count; first = 0; known = known i }

-- the window of a trace
pub no_window : (flat : Flat) (clock : ClockAt) (column : ℕ) → IsTracedAt flat column None → IsWindowAt flat clock column None
no_window flat clock column traced model clusters row at there = sym (ap (option_map window_by) (none_tracked flat row clusters (sym (traced.signal row there))))

pub one_window : (flat : Flat) (clock : ClockAt) (column : ℕ) (t : TracedSignal) (since : ℕ) (c : ClusterOf) (w : Window) → IsTracedAt flat column (Some t) → slice_get clock.since t.cluster ≡ Some since
    → slice_get clock.clusters t.cluster ≡ Some c → w ≡ window_in flat.tables since c t → IsWindowAt flat clock column (Some w)
one_window flat clock column t since c w traced since_at c_at is model clusters row at there =
    let h = get_inside clusters t.cluster (let i = slice_get_within clock.clusters t.cluster c c_at in let e = at.same in omega (arith, i, e)) in
    ap Some (is ∙ window_same model flat t traced.listed since h.0 c (at.each t.cluster h.0 c h.1 c_at) (at.begun t.cluster since h.0 h.1 since_at))
    ∙ sym (ap (option_map window_by) (tracked_is flat row t traced.listed (sym (traced.signal row there)) clusters h.0 h.1))

taken : {A : Type 0} (xs : List A) (k : ℕ) (x : A) → slice_get xs k ≡ Some x → take (k + 1) xs ≡ take k xs ++ x ∷ []
taken xs k x at = take_more xs k x (slice_get_within xs k x at) ∙ ap (λ y. take k xs ++ y ∷ []) (get_or_from_slice_get xs k x x at)

-- one trace after the other
pub no_windows : (flat : Flat) (clock : ClockAt) → AreWindowsTo flat clock 0 []
no_windows flat clock = record { long = refl; are = λ model clusters at. refl; room = λ k w at. absurd (none_some w at) }

pub more_windows : (flat : Flat) (clock : ClockAt) (n : ℕ) (windows : List (Option Window)) (w : Option Window) → n < length flat.tables.traces → AreWindowsTo flat clock n windows → IsWindowAt flat clock n w → IfSome w HasRoom
    → AreWindowsTo flat clock (n + 1) (windows ++ w ∷ [])
more_windows flat clock n windows w inside before is room = record {
  long = length_push windows w ∙ ap (λ k. k + 1) before.long;
  are = λ model clusters at. (
      let r = get_inside flat.tables.traces n inside in
      let f : TraceRow → Option Window = λ row. option_map window_by (tracked_of flat.tables clusters row) in
      ap (λ l. l ++ w ∷ []) (before.are model clusters at)
      ∙ ap (λ x. map f (take n flat.tables.traces) ++ x ∷ []) (is model clusters r.0 at r.1)
      ∙ sym (map-append f (take n flat.tables.traces) (r.0 ∷ []))
      ∙ ap (map f) (sym (taken flat.tables.traces n r.0 r.1)));
  room = λ k x at. pushed windows k at before.room;
}
  where
    pushed : (xs : List (Option Window)) (k : ℕ) {x : Option Window} → slice_get (xs ++ w ∷ []) k ≡ Some x → HaveRoom xs → IfSome x HasRoom
    pushed [] zero {x} at have = subst (λ o. IfSome o HasRoom) (some_same w x at) room
    pushed [] (suc k) {x} at have = absurd (none_some x at)
    pushed (y ∷ ys) zero {x} at have = have 0 x at
    pushed (y ∷ ys) (suc k) at have = pushed ys k at (λ j z there. have (suc j) z there)

pub all_windows : (flat : Flat) (clock : ClockAt) (n : ℕ) (windows : List (Option Window)) → n ≡ length flat.tables.traces → AreWindowsTo flat clock n windows → AreWindowsOf flat clock windows
all_windows flat clock n windows all to = λ model clusters at. to.are model clusters at
    ∙ ap (map (λ row. option_map window_by (tracked_of flat.tables clusters row))) (ap (λ k. take k flat.tables.traces) all ∙ take-length flat.tables.traces)

-- ---- rows

pub least_none : (time : ℕ) → time ≡ least_within time []
unfolding least_within
least_none time = refl

pub least_push : (time limit : ℕ) (windows : List (Option Window)) (w : Option Window) → least_within limit (map (first_missing time) (windows ++ w ∷ [])) ≡ min (least_within limit (map (first_missing time) windows)) (first_missing time w)
unfolding least_within
least_push time limit [] w = omega arith
least_push time limit (x ∷ xs) w = let r = least_push time limit xs w in omega (arith, r)

pub least_next : (time : ℕ) (windows : List (Option Window)) (k least : ℕ) (w : Option Window) → slice_get windows k ≡ Some w → least ≡ least_within time (map (first_missing time) (take k windows))
    → min least (first_missing time w) ≡ least_within time (map (first_missing time) (take (k + 1) windows))
least_next time windows k least w at is =
    let p = least_push time time (take k windows) w in
    let e = ap (λ l. least_within time (map (first_missing time) l)) (taken windows k w at) in omega (arith, is, p, e)

pub least_all : (time : ℕ) (windows : List (Option Window)) (k least : ℕ) → k ≡ length windows → least ≡ least_within time (map (first_missing time) (take k windows)) → least ≡ least_within time (map (first_missing time) windows)
least_all time windows k least all is = is ∙ ap (λ l. least_within time (map (first_missing time) l)) (ap (λ n. take n windows) all ∙ take-length windows)

missing_is : (time : ℕ) (o : Option Tracked) → first_missing time (option_map window_by o) ≡ first_unknown time o
missing_is time None = refl
missing_is time (Some x) = refl

pub missing_are : (time : ℕ) (f : TraceRow → Option Tracked) (rows : List TraceRow) → map (first_missing time) (map (λ row. option_map window_by (f row)) rows) ≡ map (λ row. first_unknown time (f row)) rows
missing_are time f [] = refl
missing_are time f (row ∷ rows) = λ i. missing_is time (f row) i ∷ missing_are time f rows i

-- ---- columns

pub valid_by : (rows : ℕ) (o : Option Tracked) (s : ColumnStateOf) → IsSamplesBy rows (option_map window_by o) s → IsValidTracked rows o s
valid_by rows None s is = is
valid_by rows (Some x) s is = record { rising = is.rising; known = is.known; later = is.later; none = is.carries.none; some = is.carries.some; first = is.carries.first }

pub samples_by : (rows : ℕ) (o : Option Tracked) (s : ColumnStateOf) → IsValidTracked rows o s → IsSamplesBy rows (option_map window_by o) s
samples_by rows None s is = is
samples_by rows (Some x) s is = record { rising = is.rising; carries = record { none = is.none; some = is.some; first = is.first }; known = is.known; later = is.later }
