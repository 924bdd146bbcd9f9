-- A trace that goes on from the columns of a valid snapshot shows the world that this says.
use Rattle.std.proofs.Common.{◌≡◌, ◌∙◌, ◌<◌, ◌≤◌, ◌+◌, ◌-◌, ◌*◌, ◌++◌, ◌&&◌, ◌⊎◌, ℕ, ℤ, zero, suc, Bool, true, false, if◌then◌else◌, min, nat_eq, nat_lt, not, Option, Some, None, option_map, List, [], ◌∷◌, length, map, slice_get, slice_index, refl, ap, sym, subst, inl, inr, arith}
use Rattle.std.proofs.Math.Nat.{add-mul, mul-le-mul_right}
use Rattle.std.proofs.lemmas.Bool.{cases_eq, cases_lt, eq-eqb, eqb-true, le-ltb, lt-ltb}
use Rattle.std.proofs.lemmas.List.Elements.{All-nil}
use Rattle.std.proofs.lemmas.Option.{get_or_from_slice_get, slice_get-map, slice_get_within}
use Rattle.std.specs.List.{sum_by, zip}
use Rattle.std.specs.Option.{option_and_then}
use Rattle.std.specs.Prelude.{All}
use Rattle.tdf_bind.specs.declared.model.Flat.{Flat}
use Rattle.tdf_bind_connections.specs.declared.drivers.SignalRow.{SignalRow}
use Rattle.tdf_bind_connections.specs.declared.modules.PortRow.{PortRow}
use Rattle.tdf_bind_connections.specs.declared.traces.TraceRow.{TraceRow}
use Rattle.tdf_bind_invariants.specs.Limits.{AreWithinLimits}
use Rattle.tdf_dynamic_first.specs.declared.first.First.{First}
use Rattle.tdf_dynamic_plans.specs.Attributes.{clusters_of}
use Rattle.tdf_events.specs.Side.{SideOf}
use Rattle.tdf_sim_traces.specs.Below.{is_trace_of}
use Rattle.tdf_fixed.specs.declared.raw.Raw.{Raw}
use Rattle.tdf_lang_tree.specs.Pure.{PureTree}
use Rattle.tdf_saved.specs.State.{ColumnStateOf, SnapshotOf}
use Rattle.tdf_saved.specs.declared.state.Stamp.{Stamp as SavedStamp}
use Rattle.tdf_schedule.specs.Plan.{done}
use Rattle.tdf_sim_history.proofs.Api.{last_record}
use Rattle.tdf_sim_history.specs.Cells.{cell_or, column_spans, driver_of_row, event_cell, event_column_cell, outputs_done, world_of}
use Rattle.tdf_sim_history.specs.Columns.{ColumnStart, held_by, no_start, stamp_at, start_of}
use Rattle.tdf_sim_history.specs.Continuing.{HasToldCounts}
use Rattle.tdf_sim_history.specs.History.{HistoryState}
use Rattle.tdf_sim_history.specs.Instant.{RunFault, acts_now, periods_of, run_in}
use Rattle.tdf_sim_history.specs.Rules.{rules_of}
use Rattle.tdf_sim_history.specs.World.{ClusterAt, World}
use Rattle.tdf_sim_history.specs.WorldLaws.{HoldsFirst}
use Rattle.tdf_sim_resumed.specs.Below.{AreAt, AreSamplesOf, ClusterOf, IsAt}
use Rattle.tdf_sim_resumed.proofs.Api.{ResumedAt, resumed_at, resumed_good, still}
use Rattle.tdf_sim_resumed.specs.Laws.{IsGoodStart}
use Rattle.tdf_sim_resumed.specs.Resuming.{resumed_clusters}
use Rattle.tdf_sim_resumed.specs.Starting.{Tracked, column_start_of, first_unknown, known_count, least_within, numbers_ahead, position_count, positions_before, resumed_world, row_of_trace, rows_from_saved, stamp_of_trace, stamps_before, tracked_of, tracked_port, tracked_signal, value_of_trace}
use Rattle.tdf_sim_resumed.specs.Valid.{IsValid, IsValidEvents, IsValidNothing, IsValidSamples, IsValidTracked}
use Rattle.tdf_sim_shown.proofs.ColumnStarts.{all_held, chain_here, given_count, given_here, given_long, held_by_it, sampled_here, skipped_within, spans_by, stamping_here, start_by, waiting_by, waits_are}
use Rattle.tdf_sim_shown.proofs.Taken.{FitsColumn, all_kept, all_labels, all_tracked, begun_none, begun_some, samples_now, spans_now}
use Rattle.tdf_sim_shown.specs.Resumed.{CanGoOnFrom, LeavesSince, ShowsResumed, skipped_in}
use Rattle.tdf_sim_shown.specs.machine.Resuming.{HaveTaken, TakesSignal, given_from, later_in, rest_in, stamps_by}
use Rattle.tdf_sim_shown.specs.machine.Waiting.{driven_at, driven_in}
use Rattle.tdf_sim_traces.proofs.Api.{any_found, any_here, given_at, no_change, span_is, steps_of, true_false}
use Rattle.tdf_sim_traces.specs.Calls.{IsUnshown, start_values}
use Rattle.tdf_sim_traces.specs.Events.{AreEventColumns, EventsStartBefore, event_before, events_before, value_of, values_before}
use Rattle.tdf_sim_traces.specs.GoingOn.{GoesOnFromStates}
use Rattle.tdf_sim_traces.specs.Periods.{ClockAt, span_in}
use Rattle.tdf_sim_traces.specs.Shown.{HasBegunBefore, IsShown, IsShownOf}
use Rattle.tdf_sim_traces.specs.Signals.{AreTold, AreTracedSignals, DrivesTraced, IsDriverOf, IsListed, driven_of}
use Rattle.tdf_sim_traces.specs.Variables.{trace_variable, traced_signal, variable_for, variables_of}
use Rattle.tdf_sim_traces.specs.declared.shown.Shown.{Shown}
use Rattle.tdf_sim_traces.specs.declared.signals.TracedSignal.{TracedSignal}
use Rattle.tdf_streams.proofs.Api.{get_inside, none_some, some_same}
use Rattle.tdf_streams.specs.Cluster.{cluster_net, fraction_of_row}
use Rattle.tdf_streams.specs.Grounds.{firings}
use Rattle.tdf_streams.specs.Streams.{known}
use Rattle.tdf_streams.specs.Signals.{outputs_in, port_output, positions, rate_in, step_in}
use Rattle.tdf_trace.proofs.Api.{get_zip, holds_resumed, number_apart, of_kept}
use Rattle.tdf_trace.specs.Stands.{Stands}
use Rattle.tdf_trace.specs.Starts.{AgreeOutside, AreSampledBy, IsSampledBy}
use Rattle.tdf_trace.specs.States.{cell_stated, cells_of_states, first_stated}
use Rattle.tdf_trace.specs.Tracked.{AreSince, TrackedOf, TrackingOf}
use Rattle.tdf_trace.specs.Tracks.{AreTracked, IsChain}
use Rattle.tdf_trace.specs.Writings.{AboutSeen, about_of}
use Rattle.tdf_trace.specs.declared.about.Variable.{Variable}
use Rattle.tdf_trace_rows.specs.Positions.{Span, count_of_spans, span_of}
use Rattle.tdf_trace_rows.specs.Stamping.{IsStamping}
use Rattle.tdf_trace_rows.specs.declared.stamps.Stamps.{Stamps}
use Rattle.tdf_trace_rows.specs.declared.kinds.TraceKind.{TraceKind}
use Rattle.tdf_trace_states.specs.ColumnStates.{number_at, sample_in}

-- ---- lists

all_at : {A : Type 0} (P : A → Type 0) (xs : List A) (i : ℕ) (x : A) → All P xs → slice_get xs i ≡ Some x → P x
all_at P xs i x all at = subst P (get_or_from_slice_get xs i x x at) (all i x (slice_get_within xs i x at))

unzipped : {A B : Type 0} (xs : List A) (ys : List B) (k : ℕ) (p : A × B) → slice_get (zip xs ys) k ≡ Some p → (slice_get xs k ≡ Some p.0) × (slice_get ys k ≡ Some p.1)
unzipped [] ys k p at = absurd (none_some p at)
unzipped (x ∷ xs) [] k p at = absurd (none_some p at)
unzipped (x ∷ xs) (y ∷ ys) zero p at = let e = some_same (x, y) p at in (ap (λ (q : _ × _). Some q.0) e, ap (λ (q : _ × _). Some q.1) e)
unzipped (x ∷ xs) (y ∷ ys) (suc k) p at = unzipped xs ys k p at

is_of : (event : Bool) (n m : ℕ) → (not event && nat_eq n m) ≡ true → (event ≡ false) × (n ≡ m)
is_of true n m h = absurd (true_false (sym h))
is_of false n m h = (refl, eqb-true n m h)

-- the least of some times is no later than each
least_below : (limit : ℕ) (times : List ℕ) (k time : ℕ) → slice_get times k ≡ Some time → least_within limit times ≤ time
unfolding least_within
least_below limit [] k time at = absurd (none_some time at)
least_below limit (t ∷ ts) zero time at = let e = some_same t time at in omega (arith, e)
least_below limit (t ∷ ts) (suc k) time at = let r = least_below limit ts k time at in omega (arith, r)

-- ---- the first column of a signal, with its state

abbrev Here : Type 0
Here = TraceRow × ColumnStateOf

abbrev first_of : (signal : ℕ) → List Here → Option Here
first_of signal [] = None
first_of signal (p ∷ ps) = if is_trace_of signal p.0 then Some p else first_of signal ps

record IsFirst (signal : ℕ) (list : List Here) : Type 0 where
  pub place : ℕ
  pub it : Here
  pub there : slice_get list place ≡ Some it
  pub of : is_trace_of signal it.0 ≡ true
  pub is : first_of signal list ≡ Some it

first_is : (signal : ℕ) (list : List Here) (k : ℕ) (p : Here) → slice_get list k ≡ Some p → is_trace_of signal p.0 ≡ true → IsFirst signal list
first_is signal [] k p at is = absurd (none_some p at)
first_is signal (q ∷ qs) k p at is = go (λ j there. first_is signal qs j p there is) (is_trace_of signal q.0) refl k at
  where
    go : ((j : ℕ) → slice_get qs j ≡ Some p → IsFirst signal qs) → (b : Bool) → is_trace_of signal q.0 ≡ b → (j : ℕ) → slice_get (q ∷ qs) j ≡ Some p → IsFirst signal (q ∷ qs)
    go rest true here j there = record { place = 0; it = q; there = refl; of = here; is = ap (λ b. if b then Some q else first_of signal qs) here }
    go rest false here zero there = absurd (true_false (sym is ∙ ap (λ (x : Here). is_trace_of signal x.0) (sym (some_same q p there)) ∙ here))
    go rest false here (suc j) there = (let r = rest j there in record { place = suc r.place; it = r.it; there = r.there; of = r.of; is = ap (λ b. if b then Some q else first_of signal qs) here ∙ r.is })

module _ (model : PureTree) (flat : Flat) (firsts : List First) (s : SnapshotOf) (limits : AreWithinLimits flat) (tells : AreTold flat.tables) (valid : IsValid model flat firsts s)
    (clock : ClockAt) (can : CanGoOnFrom flat clock) (are_at : AreAt model flat clock.since (resumed_clusters model flat firsts s []) clock.clusters) where
  abbrev pub start : World SideOf
  start = resumed_world model flat firsts s []

  abbrev rows : ℕ
  rows = rows_from_saved model flat firsts s

  abbrev pairs : List Here
  pairs = zip flat.tables.traces s.columns

  good : IsGoodStart flat start
  good = resumed_good model flat firsts s [] limits valid (All-nil (All HasToldCounts))

  -- the state of a column
  state_at : (column : ℕ) (row : TraceRow) → slice_get flat.tables.traces column ≡ Some row → (state : ColumnStateOf) × (slice_get s.columns column ≡ Some state)
  state_at column row at = get_inside s.columns column (let i = slice_get_within flat.tables.traces column row at in let l = valid.members.columns in omega (arith, i, l))

  start_at : (column : ℕ) (row : TraceRow) (state : ColumnStateOf) → slice_get flat.tables.traces column ≡ Some row → slice_get s.columns column ≡ Some state
      → start_of start.shown column ≡ column_start_of flat.tables rows row state (tracked_of flat.tables start.clusters row)
  start_at column row state at there =
      let f : Here → ColumnStart = λ c. column_start_of flat.tables rows c.0 c.1 (tracked_of flat.tables start.clusters c.0) in
      get_or_from_slice_get start.shown column (f (row, state)) no_start (slice_get-map f pairs column ∙ ap (option_map f) (get_zip flat.tables.traces s.columns column row state at there))

  -- rows of one signal
  row_same : (one other : TraceRow) → one.event ≡ other.event → one.signal ≡ other.signal → row_of_trace flat.tables one ≡ row_of_trace flat.tables other
  row_same one other events signals =
      ap (λ (b : Bool). if b then slice_get flat.tables.de_signals one.signal else slice_get flat.tables.signals one.signal) events
      ∙ ap (λ n. if other.event then slice_get flat.tables.de_signals n else slice_get flat.tables.signals n) signals

  -- a start says the same for each row of the signal
  start_same : (one other : TraceRow) (state : ColumnStateOf) (x : Tracked) → one.event ≡ other.event → one.signal ≡ other.signal → column_start_of flat.tables rows one state (Some x) ≡ column_start_of flat.tables rows other state (Some x)
  start_same one other state x events signals = ap (λ o. record {
    carry = option_map (λ num. record { num = num; frac = fraction_of_row o }) state.carry;
    stamps = map (λ (y : SavedStamp). record { time = y.time; value = record { num = y.num; frac = fraction_of_row o } }) (stamps_before x.cluster.since state);
    skipped = positions_before rows x;
    ahead = map (λ num. record { num = num; frac = fraction_of_row o }) (numbers_ahead x.cluster.since state);
  }) (row_same one other events signals)

  -- ---- spans and samples by signal

  abbrev spans_with : Here → Option Tracked → List Span
  spans_with p None = []
  spans_with p (Some x) = spans_by flat.tables rows p.0 p.1 x

  abbrev held_with : Here → Option Tracked → List Raw
  held_with p None = []
  held_with p (Some x) = held_by_it flat.tables rows p.0 p.1 x

  abbrev waits_with : Here → Option Tracked → List Raw
  waits_with p None = []
  waits_with p (Some x) = waiting_by flat.tables rows p.0 p.1 x

  abbrev of_first : {A : Type 0} → (Here → Option Tracked → List A) → Option Here → List A
  of_first f None = []
  of_first f (Some p) = f p (tracked_of flat.tables start.clusters p.0)

  abbrev its : ℕ → List Span
  its signal = of_first spans_with (first_of signal pairs)

  abbrev held : ℕ → List Raw
  held signal = of_first held_with (first_of signal pairs)

  abbrev waits : ℕ → List Raw
  waits signal = of_first waits_with (first_of signal pairs)

  module _ (n number : ℕ) (port : PortRow) (drives : DrivesTraced flat n number port) (h : ClusterAt) (h_at : slice_get start.clusters n ≡ Some h) where
    abbrev x : Tracked
    x = record { port = port; cluster = h }

    r : ResumedAt model flat firsts s [] n h
    r = resumed_at model flat firsts s [] n h h_at

    c : (d : ClusterOf) × (slice_get clock.clusters n ≡ Some d)
    c = get_inside clock.clusters n (let i = slice_get_within start.clusters n h h_at in let e = are_at.same in omega (arith, i, e))

    i : IsAt model flat (n + 1) h c.0
    i = are_at.each n h c.0 h_at c.1

    begins : h.origin ≡ h.since
    begins = ap (λ (d : ClusterAt). d.origin) r.is ∙ sym (ap (λ (d : ClusterAt). d.since) r.is)

    no_old : h.old ≡ []
    no_old = ap (λ (d : ClusterAt). d.old) r.is

    none_done : h.place ≡ h.from
    none_done = ap (λ (d : ClusterAt). d.place) r.is ∙ sym (ap (λ (d : ClusterAt). d.from) r.is)

    some : 0 < step_in port h.now
    some = (steps_of port model flat n number drives limits h.now (last_record flat (n + 1) h.begun h.old h.now i.records)).0

    tracked_is : (row : TraceRow) → row.event ≡ false → row.signal ≡ port.signal → tracked_of flat.tables start.clusters row ≡ Some x
    tracked_is row plain same =
        ap (λ (b : Bool). if b then None else tracked_signal flat.tables start.clusters row.signal) plain
        ∙ ap (tracked_signal flat.tables start.clusters) same
        ∙ ap (λ o. option_and_then (tracked_port flat.tables start.clusters) (option_and_then (slice_get flat.tables.ports) o)) drives.driver
        ∙ ap (option_and_then (tracked_port flat.tables start.clusters)) drives.traced.there
        ∙ ap (option_map (λ (d : ClusterAt). record { port = port; cluster = d })) (
        let inside = drives.traced.inside in
        let e : slice_index (clusters_of flat.tables) port.«module» - 1 ≡ n = omega (arith, inside) in ap (slice_get start.clusters) e ∙ h_at)

    valid_samples : (column : ℕ) (row : TraceRow) (state : ColumnStateOf) → slice_get flat.tables.traces column ≡ Some row → row.event ≡ false → row.signal ≡ port.signal → slice_get s.columns column ≡ Some state → IsValidSamples rows x state
    valid_samples column row state at plain same there = subst (λ o. IsValidTracked rows o state) (tracked_is row plain same) ((valid.columns.each column row state at there).1 plain)

    first : IsFirst port.signal pairs
    first =
        let f = any_found (is_trace_of port.signal) flat.tables.traces drives.traced.traced in
        let t = state_at f.0 f.1 f.2 in
        first_is port.signal pairs f.0 (f.1, t.0) (get_zip flat.tables.traces s.columns f.0 f.1 t.0 f.2 t.1) f.3

    abbrev p : Here
    p = first.it

    p_at : (slice_get flat.tables.traces first.place ≡ Some p.0) × (slice_get s.columns first.place ≡ Some p.1)
    p_at = unzipped flat.tables.traces s.columns first.place p first.there

    p_of : (p.0.event ≡ false) × (p.0.signal ≡ port.signal)
    p_of = is_of p.0.event p.0.signal port.signal first.of

    first_valid : IsValidSamples rows x p.1
    first_valid = valid_samples first.place p.0 p.1 p_at.0 p_of.0 p_of.1 p_at.1

    by_first : {A : Type 0} (f : Here → Option Tracked → List A) → of_first f (first_of port.signal pairs) ≡ f p (Some x)
    by_first f = ap (of_first f) first.is ∙ ap (f p) (tracked_is p.0 p_of.0 p_of.1)

    -- another column of the signal has the same state
    same_state : (column : ℕ) (row : TraceRow) (state : ColumnStateOf) → slice_get flat.tables.traces column ≡ Some row → row.event ≡ false → row.signal ≡ port.signal → slice_get s.columns column ≡ Some state → state ≡ p.1
    same_state column row state at plain same there = some_same state p.1 (sym there ∙ valid.alike.each column first.place row p.0 at p_at.0 (plain ∙ sym p_of.0) (same ∙ sym p_of.1) ∙ p_at.1)

    abbrev here_start : ColumnStart
    here_start = start_by flat.tables rows p.0 p.1 x

    starts : (column : ℕ) (row : TraceRow) → slice_get flat.tables.traces column ≡ Some row → row.event ≡ false → row.signal ≡ port.signal → start_of start.shown column ≡ here_start
    starts column row at plain same = let t = state_at column row at in
        start_at column row t.0 at t.1 ∙ ap (column_start_of flat.tables rows row t.0) (tracked_is row plain same)
        ∙ ap (λ st. column_start_of flat.tables rows row st (Some x)) (same_state column row t.0 at plain same t.1)
        ∙ start_same row p.0 p.1 x (plain ∙ sym p_of.0) (same ∙ sym p_of.1)

    -- its row in the table
    values_are : (signal : SignalRow) → slice_get flat.tables.signals port.signal ≡ Some signal → (num : ℤ) → value_of_trace flat.tables p.0 num ≡ sample_in signal.format num
    values_are signal at num = ap (λ o. record { num = num; frac = fraction_of_row o })
        (ap (λ (b : Bool). if b then slice_get flat.tables.de_signals p.0.signal else slice_get flat.tables.signals p.0.signal) p_of.0 ∙ ap (slice_get flat.tables.signals) p_of.1 ∙ at)

    -- what is listed of the signal
    same_listed : (t : TracedSignal) → IsListed flat t → t.signal ≡ port.signal → (t.cluster ≡ n) × (t.port ≡ number) × (t.«module» ≡ port.«module»)
    same_listed t l same =
        let number_is : t.port ≡ number = some_same t.port number (sym l.drives.driver ∙ ap (λ k. driver_of_row (slice_get flat.tables.signals k)) (sym l.signal_is ∙ same) ∙ drives.driver) in
        let port_is : l.port ≡ port = some_same l.port port (sym l.drives.traced.there ∙ ap (slice_get flat.tables.ports) number_is ∙ drives.traced.there) in
        let a = l.drives.traced.inside in let b = drives.traced.inside in
        let e : slice_index (clusters_of flat.tables) l.port.«module» ≡ slice_index (clusters_of flat.tables) port.«module» = ap (λ (q : PortRow). slice_index (clusters_of flat.tables) q.«module») port_is in
        (omega (arith, a, b, e), number_is, l.module_is ∙ ap (λ (q : PortRow). q.«module») port_is)

    since_is : (t : TracedSignal) → IsListed flat t → t.cluster ≡ n → slice_index clock.since t.cluster ≡ h.since
    since_is t l same =
        let q = get_inside clock.since t.cluster (can.since t l) in
        get_or_from_slice_get clock.since t.cluster q.0 0 q.1 ∙ are_at.begun n q.0 h h_at (ap (slice_get clock.since) (sym same) ∙ q.1)

    -- the stamps that a column gives
    stamps_are : (t : TracedSignal) (d : ClusterOf) (state : ColumnStateOf) → IsListed flat t → t.signal ≡ port.signal → slice_get clock.clusters t.cluster ≡ Some d → state ≡ p.1
        → stamps_by flat (slice_index clock.since t.cluster) d t state rows ≡ rest_in h.since (step_in port h.now) (positions port h.now) rows (given_from h.since p.1.samples)
    stamps_are t d state l same there state_is =
        let q = same_listed t l same in
        let d_is : d ≡ c.0 = some_same d c.0 (sym there ∙ ap (slice_get clock.clusters) q.0 ∙ c.1) in
        let span : span_in flat.tables 0 c.0 t ≡ span_of 0 (step_in port h.now) (positions port h.now) = span_is port model flat n number drives h c.0 t i q.1 q.2 0 in
        ap (λ k. stamps_by flat k d t state rows) (since_is t l q.0)
        ∙ ap (λ e. stamps_by flat h.since e t state rows) d_is
        ∙ ap (λ st. stamps_by flat h.since c.0 t st rows) state_is
        ∙ ap (λ (z : Span). rest_in h.since z.step z.count rows (given_from h.since p.1.samples)) span

    fits : (column : ℕ) (row : TraceRow) (old new : List TrackedOf) → slice_get flat.tables.traces column ≡ Some row → (y : TakesSignal flat clock s.columns rows column row old new) → y.it.signal ≡ port.signal → row.event ≡ false → row.signal ≡ port.signal
        → FitsColumn flat clock s.columns rows valid.members.columns its held waits column row old new y
    fits column row old new at y same plain signal = record {
      chain = subst IsChain (sym (ap its same ∙ by_first spans_with)) (chain_here flat.tables rows p.0 p.1 x first_valid some begins);
      stamping = subst (λ st. IsStamping (its y.it.signal) (length (held y.it.signal)) st) (sym stamps)
          (subst (λ ps. IsStamping ps (length (held y.it.signal)) (rest_in h.since (step_in port h.now) (positions port h.now) rows (given_from h.since p.1.samples))) (sym (ap its same ∙ by_first spans_with))
          (subst (λ l. IsStamping (spans_by flat.tables rows p.0 p.1 x) (length l) (rest_in h.since (step_in port h.now) (positions port h.now) rows (given_from h.since p.1.samples))) (sym (ap held same ∙ by_first held_with))
          (stamping_here flat.tables rows p.0 p.1 x first_valid some begins)));
      later = ap (λ st. later_in y.takes.signal.format y.state.later st.left) stamps
          ∙ ap (λ (st : ColumnStateOf). later_in y.takes.signal.format st.later (rest_in h.since (step_in port h.now) (positions port h.now) rows (given_from h.since p.1.samples)).left) state_is
          ∙ waits_are flat.tables rows p.0 p.1 x first_valid some begins y.takes.signal.format (values_are y.takes.signal (ap (slice_get flat.tables.signals) (sym same) ∙ y.takes.there))
          ∙ sym (ap waits same ∙ by_first waits_with);
    }
      where
        state_is : y.state ≡ p.1
        state_is = same_state column row y.state at plain signal y.at

        stamps : stamps_by flat (slice_index clock.since y.it.cluster) y.cluster y.it y.state rows ≡ rest_in h.since (step_in port h.now) (positions port h.now) rows (given_from h.since p.1.samples)
        stamps = stamps_are y.it y.cluster y.state y.listed same y.there state_is

    -- no position without a sample lies before the rows that are still to be written
    abbrev rest_here : Stamps
    rest_here = rest_in h.since (step_in port h.now) (positions port h.now) rows (given_from h.since p.1.samples)

    rest_late : 0 < rest_here.left → rows ≤ rest_here.time
    rest_late more = omega (arith, least, later)
      where
        given_is : given_from h.since p.1.samples ≡ min (known_count x) (position_count x) - positions_before rows x
        given_is = given_count flat.tables rows p.0 p.1 x first_valid some begins ∙ given_long flat.tables rows p.0 p.1 x first_valid some begins

        done_here : ℕ
        done_here = min (given_from h.since p.1.samples) (positions port h.now - skipped_in h.since (step_in port h.now) (positions port h.now) rows)

        few : (known_count x < position_count x) × (known_count x ≤ positions_before rows x + done_here)
        few = let g = given_is in (omega (arith, g, more), omega (arith, g, more))

        product : known_count x * step_in port h.now ≤ (positions_before rows x + done_here) * step_in port h.now
        product = mul-le-mul_right (step_in port h.now) few.1

        later : h.since + known_count x * step_in port h.now ≤ rest_here.time
        later = let a = add-mul (positions_before rows x) done_here (step_in port h.now) in let b = product in omega (arith, a, b)

        first_is_then : first_unknown s.time (Some x) ≡ min s.time (h.since + known_count x * step_in port h.now)
        first_is_then = ap (λ (b : Bool). if b then min s.time (h.since + known_count x * step_in port h.now) else s.time) (lt-ltb (known_count x) (position_count x) few.0)

        least : rows ≤ h.since + known_count x * step_in port h.now
        least =
            let f : TraceRow → ℕ = λ (r : TraceRow). first_unknown s.time (tracked_of flat.tables start.clusters r) in
            let at : slice_get (map f flat.tables.traces) first.place ≡ Some (first_unknown s.time (Some x)) = slice_get-map f flat.tables.traces first.place ∙ ap (option_map f) p_at.0 ∙ ap (λ o. Some (first_unknown s.time o)) (tracked_is p.0 p_of.0 p_of.1) in
            let l = least_below s.time (map f flat.tables.traces) first.place (first_unknown s.time (Some x)) at in
            let e = first_is_then in omega (arith, l, e)

    -- the positions of the period have their samples
    holds_first : HoldsFirst here_start port (periods_of h)
    holds_first = subst (λ l. HoldsFirst here_start port (l ++ h.now ∷ [])) (sym no_old) (skipped_within flat.tables rows p.0 p.1 x first_valid some begins, enough)
      where
        enough : positions port h.now ≤ positions_before rows x + (length here_start.ahead + outputs_in port h.now)
        enough =
            let plan = good.plans n h h_at in
            let m = plan.counts port.«module» in let w = plan.whole port.«module» in
            let q : slice_index h.now.counts port.«module» * rate_in port h.now + done h.entries h.place port.«module» * rate_in port h.now ≡ positions port h.now =
            sym (add-mul (slice_index h.now.counts port.«module») (done h.entries h.place port.«module») (rate_in port h.now))
            ∙ ap (λ k. k * rate_in port h.now) (let e : done h.entries h.place port.«module» ≡ done h.entries h.from port.«module» = ap (λ k. done h.entries k port.«module») none_done in omega (arith, m, w, e)) in
            let a = ahead_long in let k = known_is in omega (arith, q, a, k)
          where
            ahead_long : length here_start.ahead ≡ (min (known_count x) (position_count x) - positions_before rows x) + (known_count x - position_count x)
            ahead_long = given_here flat.tables rows p.0 p.1 x first_valid some begins

            known_is : done h.entries h.place port.«module» * rate_in port h.now ≤ known_count x
            known_is = omega arith

  -- ---- columns of any kind

  driven_parts : (row : TraceRow) (signal : ℕ) → driven_of flat.tables row ≡ Some signal → (row.event ≡ false) × (row.signal ≡ signal) × ((number : ℕ) × (driver_of_row (slice_get flat.tables.signals row.signal) ≡ Some number))
  driven_parts row signal is = by_event row.event refl
    where
      by_driver : (o : Option ℕ) → driver_of_row (slice_get flat.tables.signals row.signal) ≡ o → option_map (λ (number : ℕ). row.signal) o ≡ Some signal → row.event ≡ false → (row.event ≡ false) × (row.signal ≡ signal) × ((number : ℕ) × (driver_of_row (slice_get flat.tables.signals row.signal) ≡ Some number))
      by_driver None at none plain = absurd (none_some signal none)
      by_driver (Some number) at some plain = (plain, some_same row.signal signal some, (number, at))

      by_event : (b : Bool) → row.event ≡ b → (row.event ≡ false) × (row.signal ≡ signal) × ((number : ℕ) × (driver_of_row (slice_get flat.tables.signals row.signal) ≡ Some number))
      by_event true event = absurd (none_some signal (sym (ap (λ (b : Bool). if b then None else option_map (λ (number : ℕ). row.signal) (driver_of_row (slice_get flat.tables.signals row.signal))) event) ∙ is))
      by_event false plain = by_driver (driver_of_row (slice_get flat.tables.signals row.signal)) refl
          (sym (ap (λ (b : Bool). if b then None else option_map (λ (number : ℕ). row.signal) (driver_of_row (slice_get flat.tables.signals row.signal))) plain) ∙ is) plain

  driven_is : (row : TraceRow) (number : ℕ) → row.event ≡ false → driver_of_row (slice_get flat.tables.signals row.signal) ≡ Some number → driven_of flat.tables row ≡ Some row.signal
  driven_is row number plain driver =
      ap (λ (b : Bool). if b then None else option_map (λ (k : ℕ). row.signal) (driver_of_row (slice_get flat.tables.signals row.signal))) plain
      ∙ ap (option_map (λ (k : ℕ). row.signal)) driver

  -- the port that drives the signal of a column, and its cluster
  record IsDriven (row : TraceRow) : Type 0 where
    pub n : ℕ
    pub number : ℕ
    pub port : PortRow
    pub drives : DrivesTraced flat n number port
    pub signal : row.signal ≡ port.signal
    pub h : ClusterAt
    pub h_at : slice_get start.clusters n ≡ Some h

  driven_by : (column number : ℕ) (row : TraceRow) → slice_get flat.tables.traces column ≡ Some row → row.event ≡ false → driver_of_row (slice_get flat.tables.signals row.signal) ≡ Some number → IsDriven row
  driven_by column number row at plain driver =
      let d : IsDriverOf flat.tables row.signal number = tells.drivers row.signal number driver in
      let k = slice_index (clusters_of flat.tables) d.port.«module» - 1 in
      let drives : DrivesTraced flat k number d.port = record {
        traced = record {
          there = d.there;
          inside = (let c = d.cluster in omega (arith, c));
          kind_is = d.kind_is;
          traced = any_here (is_trace_of d.port.signal) flat.tables.traces column row at
              (ap (λ (e : Bool). not e && nat_eq row.signal d.port.signal) plain ∙ eq-eqb row.signal d.port.signal (sym d.writes));
        };
        driver = ap (λ m. driver_of_row (slice_get flat.tables.signals m)) d.writes ∙ driver;
      } in
      let t : TracedSignal = record { cluster = k; «module» = d.port.«module»; port = number; signal = d.port.signal } in
      let l : IsListed flat t = record { port = d.port; drives = drives; module_is = refl; signal_is = refl } in
      let h = get_inside start.clusters k (let c = can.clusters t l in let e = are_at.same in omega (arith, c, e)) in
      record { n = k; number = number; port = d.port; drives = drives; signal = sym d.writes; h = h.0; h_at = h.1 }

  all_fit : (column : ℕ) (row : TraceRow) (old new : List TrackedOf) → slice_get flat.tables.traces column ≡ Some row → (y : TakesSignal flat clock s.columns rows column row old new)
      → FitsColumn flat clock s.columns rows valid.members.columns its held waits column row old new y
  all_fit column row old new at y =
      let q = driven_parts row y.it.signal y.same in
      let d = driven_by column q.2.0 row at q.0 q.2.1 in
      fits d.n d.number d.port d.drives d.h d.h_at column row old new at y (sym q.1 ∙ d.signal) q.0 d.signal

  abbrev spans : ℕ → List Span
  spans = spans_now flat clock s.columns rows valid.members.columns its held waits all_fit

  abbrev samples : ℕ → List Raw
  samples = samples_now flat clock s.columns rows valid.members.columns its held waits all_fit

  -- the column that shows the signal of a port
  shows_port : (n number : ℕ) (port : PortRow) (drives : DrivesTraced flat n number port) → (column : ℕ) × (column < length flat.tables.traces) × (driven_at flat.tables column ≡ Some port.signal)
  shows_port n number port drives =
      let f = any_found (is_trace_of port.signal) flat.tables.traces drives.traced.traced in
      let e = is_of f.1.event f.1.signal port.signal f.3 in (
        f.0,
        slice_get_within flat.tables.traces f.0 f.1 f.2,
        ap (driven_in flat.tables) f.2
            ∙ driven_is f.1 number e.0 (ap (λ k. driver_of_row (slice_get flat.tables.signals k)) e.1 ∙ drives.driver) ∙ ap Some e.1,
      )

  spans_at : (n number : ℕ) (port : PortRow) → DrivesTraced flat n number port → spans port.signal ≡ its port.signal
  spans_at n number port drives = let c = shows_port n number port drives in begun_some flat its (λ signal. []) (length flat.tables.traces) c.0 port.signal c.1 c.2

  samples_at : (n number : ℕ) (port : PortRow) → DrivesTraced flat n number port → samples port.signal ≡ held port.signal ++ waits port.signal
  samples_at n number port drives = let c = shows_port n number port drives in begun_some flat (λ signal. held signal ++ waits signal) (λ signal. []) (length flat.tables.traces) c.0 port.signal c.1 c.2

  -- a signal that no port drives has none
  undriven : (signal : ℕ) → ((number : ℕ) → driver_of_row (slice_get flat.tables.signals signal) ≡ Some number → ⊥) → (k : ℕ) → k < length flat.tables.traces → driven_at flat.tables k ≡ Some signal → ⊥
  undriven signal none k low is =
      let r = get_inside flat.tables.traces k low in
      let q = driven_parts r.0 signal (sym (ap (driven_in flat.tables) r.1) ∙ is) in
      none q.2.0 (ap (λ m. driver_of_row (slice_get flat.tables.signals m)) (sym q.1) ∙ q.2.1)

  -- whether one of the first n columns shows a signal that a port drives
  driven_or : (signal n : ℕ) → ((k : ℕ) × (k < n) × (driven_at flat.tables k ≡ Some signal)) ⊎ ((k : ℕ) → k < n → driven_at flat.tables k ≡ Some signal → ⊥)
  driven_or signal zero = inr (λ k less is. absurd (omega (arith, less)))
  driven_or signal (suc n) = go (driven_or signal n) (driven_at flat.tables n) refl
    where
      go : ((k : ℕ) × (k < n) × (driven_at flat.tables k ≡ Some signal)) ⊎ ((k : ℕ) → k < n → driven_at flat.tables k ≡ Some signal → ⊥) → (o : Option ℕ) → driven_at flat.tables n ≡ o
          → ((k : ℕ) × (k < suc n) × (driven_at flat.tables k ≡ Some signal)) ⊎ ((k : ℕ) → k < suc n → driven_at flat.tables k ≡ Some signal → ⊥)
      go (inl f) o at = inl (f.0, (let l = f.1 in omega (arith, l)), f.2)
      go (inr none) None at = inr (λ k less is. elim (cases_eq k n) [
        | inl same ↦ absurd (none_some signal (sym at ∙ ap (driven_at flat.tables) (sym same) ∙ is))
        | inr apart ↦ none k (omega (arith, less, apart)) is
      ])
      go (inr none) (Some s2) at = elim (cases_eq s2 signal) [
        | inl same ↦ inl (n, omega arith, at ∙ ap Some same)
        | inr other ↦ inr (λ k less is. elim (cases_eq k n) [
          | inl same ↦ absurd (other (some_same s2 signal (sym at ∙ ap (driven_at flat.tables) (sym same) ∙ is)))
          | inr apart ↦ none k (omega (arith, less, apart)) is
        ])
      ]

  -- ---- events

  event_start : (column : ℕ) (row : TraceRow) (state : ColumnStateOf) → slice_get flat.tables.traces column ≡ Some row → row.event ≡ true → slice_get s.columns column ≡ Some state
      → start_of start.shown column ≡ column_start_of flat.tables rows row state None
  event_start column row state at event there = start_at column row state at there
      ∙ ap (column_start_of flat.tables rows row state) (ap (λ (b : Bool). if b then None else tracked_signal flat.tables start.clusters row.signal) event)

  stamped : (row : TraceRow) (xs : List SavedStamp) (t : ℕ) → stamp_at (map (stamp_of_trace flat.tables row) xs) t ≡ option_map (value_of_trace flat.tables row) (number_at xs t)
  unfolding number_at
  stamped row [] t = refl
  stamped row (y ∷ ys) t = go (stamped row ys t) (nat_eq y.time t)
    where
      go : stamp_at (map (stamp_of_trace flat.tables row) ys) t ≡ option_map (value_of_trace flat.tables row) (number_at ys t) → (b : Bool) → (if b then Some (value_of_trace flat.tables row y.num) else stamp_at (map (stamp_of_trace flat.tables row) ys) t) ≡ option_map (value_of_trace flat.tables row) (if b then Some y.num else number_at ys t)
      go rest true = refl
      go rest false = rest

  none_late : (column : ℕ) (row : TraceRow) (state : ColumnStateOf) → slice_get flat.tables.traces column ≡ Some row → row.event ≡ true → slice_get s.columns column ≡ Some state → (t : ℕ) → s.time ≤ t → number_at state.samples t ≡ None
  none_late column row state at event there t late =
      let e : IsValidEvents flat rows s.time s.kernel.values row state = (valid.columns.each column row state at there).0 event in
      number_apart t state.samples (λ k y y_at same. let l = all_at (λ (z : SavedStamp). z.time < s.time) state.samples k y e.before y_at in absurd (omega (arith, l, same, late)))

  starts_before : EventsStartBefore flat.tables.traces start.shown s.time
  starts_before column row at event t late =
      let st = state_at column row at in
      ap (λ (c : ColumnStart). stamp_at c.stamps t) (event_start column row st.0 at event st.1) ∙ stamped row st.0.samples t ∙ ap (option_map (value_of_trace flat.tables row)) (none_late column row st.0 at event st.1 t late)

  values_stay : (t : ℕ) → t ≤ s.time → values_before model flat start t ≡ start.events.values
  values_stay t low = ap (λ (w : HistoryState (World SideOf) RunFault). (world_of w).events.values) (still model flat firsts s [] t valid low)

  quiet : (row : TraceRow) (t : ℕ) → t < s.time → event_cell model flat (rules_of model flat) start row.signal t ≡ None
  quiet row t low = no_change (value_of (values_before model flat start t) row.signal) (value_of (values_before model flat start (t + 1)) row.signal)
      (ap (λ l. value_of l row.signal) (values_stay (t + 1) (omega (arith, low)) ∙ sym (values_stay t (omega (arith, low)))))

  -- ---- what is tracked

  module _ (kind : TraceKind) (fresh : Shown) (list : List TrackedOf) (un : IsUnshown kind flat fresh) (taken : HaveTaken flat clock s.columns rows (length flat.tables.traces) fresh.tracking.list list) where
    tracked_now : AreTracked spans samples list
    tracked_now = all_tracked flat clock s.columns rows valid.members.columns its held waits all_fit fresh.tracking.list list taken un.tracking.tracked

    -- no position without a sample lies before the rows that are still to be written
    pub resumed_since : AreSince rows list
    unfolding count_of_spans
    resumed_since place t there more = elim (driven_or t.signal (length flat.tables.traces)) [
      | inl f ↦ (
          let r = get_inside flat.tables.traces f.0 f.1 in
          let q = driven_parts r.0 t.signal (sym (ap (driven_in flat.tables) r.1) ∙ f.2) in
          let d = driven_by f.0 q.2.0 r.0 r.1 q.0 q.2.1 in
          all_kept flat clock s.columns rows valid.members.columns t.signal (λ u. 0 < u.stamps.left → rows ≤ u.stamps.time)
          (λ column row old mid at y signal u since stamps left. (
          let v = driven_parts row y.it.signal y.same in
          let same : y.it.signal ≡ d.port.signal = signal ∙ sym q.1 ∙ d.signal in
          let st = stamps_are d.n d.number d.port d.drives d.h d.h_at y.it y.cluster y.state y.listed same y.there (same_state d.n d.number d.port d.drives d.h d.h_at column row y.state at v.0 (v.1 ∙ same) y.at) in
          let late = rest_late d.n d.number d.port d.drives d.h d.h_at in
          subst (λ (z : Stamps). 0 < z.left → rows ≤ z.time) (sym (stamps ∙ st)) late left))
          fresh.tracking.list list taken f.0 f.1 f.2 place t there refl more)
      | inr none ↦ absurd (
          let w = (tracked_now place t there).stamping.whole in
          let z : count_of_spans (spans t.signal) ≡ 0 = ap count_of_spans (begun_none flat its (λ signal. []) (length flat.tables.traces) t.signal none) in
          omega (arith, w, z, more))
    ]

  -- ---- the cells of the states

  module _ (long : length (variables_of flat.tables) ≡ length flat.tables.traces) where
    -- the variable of a column
    record HasVariable (column : ℕ) (row : TraceRow) : Type 0 where
      pub v : Variable
      pub at : slice_get (variables_of flat.tables) column ≡ Some v
      pub signal : SignalRow
      pub row_is : row_of_trace flat.tables row ≡ Some signal
      pub format_is : v.format ≡ signal.format

    variable_at : (column : ℕ) (row : TraceRow) → slice_get flat.tables.traces column ≡ Some row → HasVariable column row
    variable_at column row at = let g = given_at (trace_variable flat.tables) flat.tables.traces column row long at in by_signal (traced_signal flat.tables row) refl g.0 g.1 g.2
      where
        by_signal : (o : Option SignalRow) → traced_signal flat.tables row ≡ o → (v : Variable) → option_map (variable_for row) o ≡ Some v → slice_get (variables_of flat.tables) column ≡ Some v → HasVariable column row
        by_signal None there v is v_at = absurd (none_some v is)
        by_signal (Some signal) there v is v_at = record { v = v; at = v_at; signal = signal; row_is = there; format_is = ap (λ (z : Variable). z.format) (sym (some_same (variable_for row signal) v is)) }

    value_is : (column : ℕ) (row : TraceRow) (d : HasVariable column row) (num : ℤ) → sample_in d.v.format num ≡ value_of_trace flat.tables row num
    value_is column row d num = ap (λ f. sample_in f num) d.format_is ∙ sym (ap (λ o. record { num = num; frac = fraction_of_row o }) d.row_is)

    mapped : (f g : ℤ → Raw) (o : Option ℤ) → ((num : ℤ) → f num ≡ g num) → option_map f o ≡ option_map g o
    mapped f g None same = refl
    mapped f g (Some num) same = ap Some (same num)

    first_same : (column : ℕ) → column < length (variables_of flat.tables) → first_stated (slice_get (zip (variables_of flat.tables) s.columns) column) ≡ (start_of start.shown column).carry
    first_same column inside =
        let r = get_inside flat.tables.traces column (omega (arith, inside, long)) in
        let st = state_at column r.0 r.1 in
        let d = variable_at column r.0 r.1 in
        ap first_stated (get_zip (variables_of flat.tables) s.columns column d.v st.0 d.at st.1)
        ∙ mapped (sample_in d.v.format) (value_of_trace flat.tables r.0) st.0.carry (value_is column r.0 d)
        ∙ sym (ap (λ (c : ColumnStart). c.carry) (start_at column r.0 st.0 r.1 st.1) ∙ carry_is r.0 st.0 (tracked_of flat.tables start.clusters r.0))
      where
        carry_is : (row : TraceRow) (state : ColumnStateOf) (o : Option Tracked) → (column_start_of flat.tables rows row state o).carry ≡ option_map (value_of_trace flat.tables row) state.carry
        carry_is row state None = refl
        carry_is row state (Some y) = refl

    module _ (column t : ℕ) (row : TraceRow) (state : ColumnStateOf) (d : HasVariable column row) (at : slice_get flat.tables.traces column ≡ Some row) (there : slice_get s.columns column ≡ Some state) (event : row.event ≡ true) where
      stamp_is : stamp_at (start_of start.shown column).stamps t ≡ option_map (value_of_trace flat.tables row) (number_at state.samples t)
      stamp_is = ap (λ (c : ColumnStart). stamp_at c.stamps t) (event_start column row state at event there) ∙ stamped row state.samples t

      by_number : (o : Option ℤ) → number_at state.samples t ≡ o → t < s.time → option_map (λ num. Some (sample_in d.v.format num)) o ≡ event_column_cell model flat (rules_of model flat) start (start_of start.shown column) row.signal t
      by_number None none low = sym (ap (λ o. cell_or o (event_cell model flat (rules_of model flat) start row.signal t)) (stamp_is ∙ ap (option_map (value_of_trace flat.tables row)) none) ∙ quiet row t low)
      by_number (Some num) here low = ap (λ w. Some (Some w)) (value_is column row d num)
          ∙ sym (ap (λ o. cell_or o (event_cell model flat (rules_of model flat) start row.signal t)) (stamp_is ∙ ap (option_map (value_of_trace flat.tables row)) here))

      by_time : cell_stated (Some (d.v, state)) t ≡ event_before model flat start s.time t (start_of start.shown column) (Some row)
      by_time = elim (cases_lt t s.time) [
        | inl low ↦ by_number (number_at state.samples t) refl low
            ∙ sym (ap (λ (b : Bool). if b && nat_lt t s.time then event_column_cell model flat (rules_of model flat) start (start_of start.shown column) row.signal t else None) event
            ∙ ap (λ (b : Bool). if b then event_column_cell model flat (rules_of model flat) start (start_of start.shown column) row.signal t else None) (lt-ltb t s.time low))
        | inr late ↦ ap (option_map (λ num. Some (sample_in d.v.format num))) (none_late column row state at event there t late)
            ∙ sym (ap (λ (b : Bool). if b && nat_lt t s.time then event_column_cell model flat (rules_of model flat) start (start_of start.shown column) row.signal t else None) event
            ∙ ap (λ (b : Bool). if b then event_column_cell model flat (rules_of model flat) start (start_of start.shown column) row.signal t else None) (le-ltb t s.time late))
      ]

    event_same : (column t : ℕ) → column < length (variables_of flat.tables) → ((row : TraceRow) → slice_get flat.tables.traces column ≡ Some row → row.event ≡ true)
        → cell_stated (slice_get (zip (variables_of flat.tables) s.columns) column) t ≡ event_before model flat start s.time t (start_of start.shown column) (slice_get flat.tables.traces column)
    event_same column t inside event =
        let r = get_inside flat.tables.traces column (omega (arith, inside, long)) in
        let st = state_at column r.0 r.1 in
        let d = variable_at column r.0 r.1 in
        ap (λ o. cell_stated o t) (get_zip (variables_of flat.tables) s.columns column d.v st.0 d.at st.1)
        ∙ by_time column t r.0 st.0 d r.1 st.1 (event r.0 r.1)
        ∙ sym (ap (event_before model flat start s.time t (start_of start.shown column)) r.1)

    outside : AgreeOutside flat.tables.traces (cells_of_states (variables_of flat.tables) s.columns) (events_before model flat start s.time)
    outside = record { columns = long; first = λ column inside. first_same column inside; cells = λ column t inside event. event_same column t inside event }

    sampled : AreSampledBy flat.tables.traces spans samples (variables_of flat.tables) s.columns
    unfolding count_of_spans
    sampled = record {
      long = valid.members.columns ∙ sym long;
      each = λ column row v state at plain v_at there. by_driver column row v state at plain v_at there (driver_of_row (slice_get flat.tables.signals row.signal)) refl;
    }
      where
        by_driver : (column : ℕ) (row : TraceRow) (v : Variable) (state : ColumnStateOf) → slice_get flat.tables.traces column ≡ Some row → row.event ≡ false → slice_get (variables_of flat.tables) column ≡ Some v → slice_get s.columns column ≡ Some state
            → (o : Option ℕ) → driver_of_row (slice_get flat.tables.signals row.signal) ≡ o → IsSampledBy (spans row.signal) (samples row.signal) v.format state
        by_driver column row v state at plain v_at there None none =
            let lost = undriven row.signal (λ number is. none_some number (sym none ∙ is)) in
            let nothing : IsValidNothing state = subst (λ o. IsValidTracked rows o state)
            (ap (λ (b : Bool). if b then None else tracked_signal flat.tables start.clusters row.signal) plain
            ∙ ap (λ o. option_and_then (tracked_port flat.tables start.clusters) (option_and_then (slice_get flat.tables.ports) o)) none)
            ((valid.columns.each column row state at there).1 plain) in
            let e : spans row.signal ≡ [] = begun_none flat its (λ signal. []) (length flat.tables.traces) row.signal lost in
            record {
              all = λ j inside held_j. absurd (let z : count_of_spans (spans row.signal) ≡ 0 = ap count_of_spans e in omega (arith, inside, z));
              times = λ j y y_at. absurd (none_some y (ap (λ l. slice_get l j) (sym nothing.samples) ∙ y_at));
              values = λ j y y_at. absurd (none_some y (ap (λ l. slice_get l j) (sym nothing.samples) ∙ y_at));
            }
        by_driver column row v state at plain v_at there (Some number) driver =
            let d = driven_by column number row at plain driver in
            let f = first d.n d.number d.port d.drives d.h d.h_at in
            let vars = variable_at column row at in
            let v_is : vars.v ≡ v = some_same vars.v v (sym vars.at ∙ v_at) in
            let po = p_of d.n d.number d.port d.drives d.h d.h_at in
            let state_is = same_state d.n d.number d.port d.drives d.h d.h_at column row state at plain d.signal there in
            subst (λ k. IsSampledBy (spans k) (samples k) v.format state) (sym d.signal)
            (subst (λ ps. IsSampledBy ps (samples d.port.signal) v.format state) (sym (spans_at d.n d.number d.port d.drives ∙ by_first d.n d.number d.port d.drives d.h d.h_at spans_with))
            (subst (λ ws. IsSampledBy (spans_by flat.tables rows f.it.0 f.it.1 (record { port = d.port; cluster = d.h })) ws v.format state) (sym (samples_at d.n d.number d.port d.drives
            ∙ ap (λ l. l ++ waits d.port.signal) (by_first d.n d.number d.port d.drives d.h d.h_at held_with) ∙ ap (λ l. held_by_it flat.tables rows f.it.0 f.it.1 (record { port = d.port; cluster = d.h }) ++ l) (by_first d.n d.number d.port d.drives d.h d.h_at waits_with)))
            (subst (λ st. IsSampledBy (spans_by flat.tables rows f.it.0 f.it.1 (record { port = d.port; cluster = d.h })) (held_by_it flat.tables rows f.it.0 f.it.1 (record { port = d.port; cluster = d.h }) ++ waiting_by flat.tables rows f.it.0 f.it.1 (record { port = d.port; cluster = d.h })) v.format st) (sym state_is)
            (sampled_here flat.tables rows f.it.0 f.it.1 (record { port = d.port; cluster = d.h }) (valid_first d) (some d.n d.number d.port d.drives d.h d.h_at) (begins d.n d.number d.port d.drives d.h d.h_at) v.format
            (λ num. ap (λ o. record { num = num; frac = fraction_of_row o }) (row_same f.it.0 row (po.0 ∙ sym plain) (po.1 ∙ sym d.signal)) ∙ sym (value_is column row vars num) ∙ ap (λ (z : Variable). sample_in z.format num) v_is)))))
          where
            valid_first : (d : IsDriven row) → IsValidSamples rows (record { port = d.port; cluster = d.h }) (first d.n d.number d.port d.drives d.h d.h_at).it.1
            valid_first d = first_valid d.n d.number d.port d.drives d.h d.h_at

    -- ---- all together

    module _ (kind : TraceKind) (fresh new : Shown) (un : IsUnshown kind flat fresh) (taken : HaveTaken flat clock s.columns rows (length flat.tables.traces) fresh.tracking.list new.tracking.list)
        (width : new.tracking.width ≡ fresh.tracking.width) (signals_same : new.signals ≡ fresh.signals) (stands : Stands (cells_of_states (variables_of flat.tables) s.columns) new.trace.rows)
        (about : new.trace.about ≡ about_of kind flat.resolution (variables_of flat.tables)) (events : AreEventColumns flat.tables.traces start.events.values new.events.items) where
      -- the cluster of a port
      cluster_of : (n number : ℕ) (port : PortRow) → DrivesTraced flat n number port → (h : ClusterAt) × (slice_get start.clusters n ≡ Some h)
      cluster_of n number port drives =
          let t : TracedSignal = record { cluster = n; «module» = port.«module»; port = number; signal = port.signal } in
          get_inside start.clusters n (let c = can.clusters t (record { port = port; drives = drives; module_is = refl; signal_is = refl }) in let e = are_at.same in omega (arith, c, e))

      module _ (n number : ℕ) (port : PortRow) (drives : DrivesTraced flat n number port) (h : ClusterAt) (h_at : slice_get start.clusters n ≡ Some h) where
        abbrev own : ColumnStart
        own = here_start n number port drives h h_at

        abbrev pair : Here
        pair = p n number port drives h h_at

        spans_are : spans port.signal ≡ column_spans port own h.origin (periods_of h)
        spans_are = spans_at n number port drives ∙ by_first n number port drives h h_at spans_with
            ∙ ap (λ l. column_spans port own h.origin (l ++ h.now ∷ [])) (sym (no_old n number port drives h h_at))

        samples_are : samples port.signal ≡ held_by own
        samples_are = samples_at n number port drives
            ∙ ap (λ l. l ++ waits port.signal) (by_first n number port drives h h_at held_with)
            ∙ ap (λ l. held_by_it flat.tables rows pair.0 pair.1 (record { port = port; cluster = h }) ++ l) (by_first n number port drives h h_at waits_with)
            ∙ sym (all_held flat.tables rows pair.0 pair.1 (record { port = port; cluster = h }) (first_valid n number port drives h h_at) (some n number port drives h h_at) (begins n number port drives h h_at))

        no_outputs : outputs_done port h ≡ 0
        no_outputs =
            let o : sum_by (outputs_in port) h.old ≡ 0 = ap (sum_by (outputs_in port)) (no_old n number port drives h h_at) in
            let a : acts_now h port.«module» ≡ 0 = (let e = ap (λ k. done h.entries k port.«module») (none_done n number port drives h h_at) in omega (arith, e)) in
            let m : acts_now h port.«module» * rate_in port h.now ≡ 0 * rate_in port h.now = ap (λ k. k * rate_in port h.now) a in omega (arith, o, m)

        have_samples : AreSamplesOf model flat (n + 1) number port own h (held_by own)
        have_samples = record {
          many = (let z = no_outputs in omega (arith, z));
          are = λ j w there. ap (λ (b : Bool). if b then slice_get (held_by own) j
              else port_output (periods_of h) port number (known (cluster_net model flat (n + 1) h.begun) (run_in h) (firings (periods_of h))) (j - length (held_by own)))
              (lt-ltb j (length (held_by own)) (slice_get_within (held_by own) j w there)) ∙ there;
        }

        abbrev Sits : TrackedOf → Type 0
        Sits t = (t.since ≡ h.since) × (h.since ≤ t.stamps.time)

        sits : (place : ℕ) (t : TrackedOf) → slice_get new.tracking.list place ≡ Some t → t.signal ≡ port.signal → Sits t
        sits place t there same =
            let k = shows_port n number port drives in
            all_kept flat clock s.columns rows valid.members.columns port.signal Sits
            (λ column row old mid at y signal u since stamps. (
            let q = driven_parts row y.it.signal y.same in
            let l = same_listed n number port drives h h_at y.it y.listed signal in
            let a = since_is n number port drives h h_at y.it y.listed l.0 in
            let st = stamps_are n number port drives h h_at y.it y.cluster y.state y.listed signal y.there (same_state n number port drives h h_at column row y.state at q.0 (q.1 ∙ signal) y.at) in
            let e : u.stamps.time ≡ (rest_in h.since (step_in port h.now) (positions port h.now) rows (given_from h.since pair.1.samples)).time = ap (λ (z : Stamps). z.time) (stamps ∙ st) in
            (since ∙ a, omega (arith, e))))
            fresh.tracking.list new.tracking.list taken k.0 k.1 k.2 place t there same

        shown_of : IsShownOf model flat start.shown start.clusters n number port spans samples new.tracking.list
        shown_of = record {
          cluster = h;
          there = h_at;
          start = own;
          starts = λ column row at plain same. starts n number port drives h h_at column row at plain same;
          first = holds_first n number port drives h h_at;
          chain = subst IsChain (sym (spans_at n number port drives ∙ by_first n number port drives h h_at spans_with))
              (chain_here flat.tables rows pair.0 pair.1 (record { port = port; cluster = h }) (first_valid n number port drives h h_at) (some n number port drives h h_at) (begins n number port drives h h_at));
          spans_are = spans_are;
          samples_are = subst (AreSamplesOf model flat (n + 1) number port own h) (sym samples_are) have_samples;
          since = λ place t there same. (sits place t there same).0;
          next = λ place t there same more. (sits place t there same).1;
        }

      begun_before : (n : ℕ) (h : ClusterAt) → slice_get start.clusters n ≡ Some h → HasBegunBefore s.time h
      begun_before n h h_at =
          let r = resumed_at model flat firsts s [] n h h_at in
          let e : h.since ≡ r.state.start = ap (λ (d : ClusterAt). d.since) r.is in
          record {
            early = elim (valid.clusters.each n r.first r.state r.first_at r.state_at).inside [
              | inl begin ↦ (let z = begin.0 in omega (arith, z, e))
              | inr inside ↦ (let l = inside.0 in omega (arith, l, e))
            ];
            after_old = good.timed n h h_at;
          }

      pub resumed_shown : IsShown model flat start s.time start new
      resumed_shown = record {
        spans = spans;
        samples = samples;
        holds = holds_resumed flat.tables.traces (events_before model flat start s.time) spans samples new.tracking.list new.trace.rows (variables_of flat.tables) s.columns
            (of_kept flat.tables.traces fresh.tracking.list new.tracking.list (all_labels flat clock s.columns rows valid.members.columns fresh.tracking.list new.tracking.list taken) un.tracking.of)
            (tracked_now kind fresh new.tracking.list un taken)
            sampled outside stands;
        signals = subst (λ l. AreTracedSignals flat l) (sym (ap (λ l. l.items) signals_same)) un.signals;
        each = λ n number port drives. (let k = cluster_of n number port drives in shown_of n number port drives k.0 k.1);
        none = λ signal unlisted. begun_none flat its (λ k. []) (length flat.tables.traces) signal (λ k low is. (
            let r = get_inside flat.tables.traces k low in
            let q = driven_parts r.0 signal (sym (ap (driven_in flat.tables) r.1) ∙ is) in
            let w = un.signals.all k q.2.0 r.0 r.1 q.0 q.2.1 in
            unlisted w.place w.it (ap (λ l. slice_get l.items w.place) signals_same ∙ w.there) (w.same ∙ q.1)));
        events = subst (λ l. AreEventColumns flat.tables.traces l new.events.items) (sym (values_stay s.time (omega arith))) events;
        stamped = starts_before;
        begun = λ n h h_at. begun_before n h h_at;
        width = width ∙ un.tracking.width;
        columns = ap (λ (a : AboutSeen). length a.variables) about ∙ long;
      }

-- ---- the trace that is made

pub shows_resumed : (flat : Flat) (clock : ClockAt) (columns : List ColumnStateOf) (values : List Raw) (from : ℕ) (kind : TraceKind) (fresh taken new : Shown) → CanGoOnFrom flat clock → IsUnshown kind flat fresh
    → HaveTaken flat clock columns from (length flat.tables.traces) fresh.tracking.list taken.tracking.list → taken.tracking.width ≡ fresh.tracking.width → taken.signals ≡ fresh.signals → taken.events ≡ fresh.events
    → GoesOnFromStates kind flat columns values from taken new → ShowsResumed flat clock columns values from new
shows_resumed flat clock columns values from kind fresh taken new can un have width signals events goes =
    λ model firsts s flat_of valid columns_are time_is from_is values_are at.
    resumed_shown model flat firsts s can.limits can.shown.told valid clock can at un.columns kind fresh new un
    (subst (λ (x : TrackingOf). HaveTaken flat clock s.columns (rows_from_saved model flat firsts s) (length flat.tables.traces) fresh.tracking.list x.list) (sym goes.tracking)
    (subst (λ (l : List ColumnStateOf). HaveTaken flat clock l (rows_from_saved model flat firsts s) (length flat.tables.traces) fresh.tracking.list taken.tracking.list) (sym columns_are)
    (subst (λ n. HaveTaken flat clock columns n (length flat.tables.traces) fresh.tracking.list taken.tracking.list) (sym from_is) have)))
    (ap (λ (x : TrackingOf). x.width) goes.tracking ∙ width)
    (goes.signals ∙ signals)
    (subst (λ (l : List ColumnStateOf). Stands (cells_of_states (variables_of flat.tables) l) new.trace.rows) (sym columns_are) goes.stands)
    goes.about
    (subst (λ (l : List Raw). AreEventColumns flat.tables.traces l new.events.items) (sym values_are)
    (goes.events (start_values flat.tables) (subst (λ l. AreEventColumns flat.tables.traces (start_values flat.tables) l.items) (sym events) un.events)))

pub leaves_since : (flat : Flat) (clock : ClockAt) (columns : List ColumnStateOf) (from : ℕ) (kind : TraceKind) (fresh taken new : Shown) → CanGoOnFrom flat clock → IsUnshown kind flat fresh
    → HaveTaken flat clock columns from (length flat.tables.traces) fresh.tracking.list taken.tracking.list → new.tracking ≡ taken.tracking → LeavesSince flat clock columns from new
leaves_since flat clock columns from kind fresh taken new can un have same =
    λ model firsts s valid columns_are from_is at.
    subst (λ n. AreSince n new.tracking.list) from_is
    (resumed_since model flat firsts s can.limits can.shown.told valid clock can at kind fresh new.tracking.list un
    (subst (λ (x : TrackingOf). HaveTaken flat clock s.columns (rows_from_saved model flat firsts s) (length flat.tables.traces) fresh.tracking.list x.list) (sym same)
    (subst (λ (l : List ColumnStateOf). HaveTaken flat clock l (rows_from_saved model flat firsts s) (length flat.tables.traces) fresh.tracking.list taken.tracking.list) (sym columns_are)
    (subst (λ n. HaveTaken flat clock columns n (length flat.tables.traces) fresh.tracking.list taken.tracking.list) (sym from_is) have))))
