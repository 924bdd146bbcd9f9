-- The states of the columns of a trace, with the samples that wait, are those of a snapshot.
use Rattle.std.proofs.Common.{◌≡◌, ◌∙◌, ◌<◌, ◌≤◌, ◌+◌, ◌-◌, ◌&&◌, ◌++◌, ℕ, ℤ, Bool, true, false, if◌then◌else◌, nat_lt, Option, Some, None, option_map, List, [], ◌∷◌, drop, length, length-drop, map, slice_get, slice_index, refl, ap, sym, subst, inl, inr, arith}
use Rattle.std.proofs.lemmas.Bool.{cases_lt, le-ltb, lt-ltb}
use Rattle.std.proofs.lemmas.Option.{slice_get_within}
use Rattle.std.specs.List.{flat_map, range_with_len}
use Rattle.std.specs.Option.{option_and_then}
use Rattle.tdf_bind.specs.declared.model.Flat.{Flat}
use Rattle.tdf_bind_connections.specs.declared.modules.PortRow.{PortRow}
use Rattle.tdf_bind_connections.specs.declared.traces.TraceRow.{TraceRow}
use Rattle.tdf_dynamic_plans.specs.Attributes.{clusters_of}
use Rattle.tdf_events.specs.Side.{SideOf}
use Rattle.tdf_fixed.specs.declared.raw.Raw.{Raw}
use Rattle.tdf_lang_tree.specs.Pure.{PureTree}
use Rattle.tdf_saved.specs.State.{ColumnStateOf}
use Rattle.tdf_saved.specs.declared.state.Stamp.{Stamp as SavedStamp}
use Rattle.tdf_sim_history.specs.Cells.{column_spans, driver_of_row, event_column_cell, sample_at, sample_of, samples_done, world_before}
use Rattle.tdf_sim_history.specs.Columns.{ColumnStart, start_of}
use Rattle.tdf_sim_history.specs.Instant.{periods_of}
use Rattle.tdf_sim_history.specs.Rules.{rules_of}
use Rattle.tdf_sim_history.specs.World.{ClusterAt, World}
use Rattle.tdf_sim_resumed.specs.Below.{sample_known}
use Rattle.tdf_sim_resumed.specs.Snapshot.{AreSavedColumns, IsRowsFrom, IsSavedColumn, later_numbers, later_of, number_of_sample, shown_until, stamp_of_cell, stamps_between}
use Rattle.tdf_sim_resumed.specs.Starting.{Tracked, tracked_of, tracked_signal, tracked_port}
use Rattle.tdf_sim_shown.proofs.Cells.{IsUnknown, cells, event_at, event_known, sample_here}
use Rattle.tdf_sim_shown.proofs.Ends.{EndsBy, before_end, column_ends}
use Rattle.tdf_sim_shown.proofs.Rising.{flat_same, found, get_drop, number_there, numbers_are, rising_is}
use Rattle.tdf_sim_shown.specs.Saved.{GivesColumns}
use Rattle.tdf_sim_shown.specs.machine.Waiting.{HasLater, HaveLater, IsLaterFor, driven_at, driven_in}
use Rattle.tdf_sim_traces.proofs.Api.{driving, told}
use Rattle.tdf_sim_traces.specs.Events.{event_before, events_before}
use Rattle.tdf_sim_traces.specs.Shown.{IsShown, IsShownOf}
use Rattle.tdf_sim_traces.specs.Signals.{AreTold, DrivesTraced, IsDriverOf, IsListed}
use Rattle.tdf_sim_traces.specs.declared.shown.Shown.{Shown}
use Rattle.tdf_streams.proofs.Api.{get_inside, none_some, some_same}
use Rattle.tdf_streams.specs.Signals.{time_of_periods}
use Rattle.tdf_trace.proofs.Api.{rest_waits}
use Rattle.tdf_trace.specs.Starts.{IsLaterOf}
use Rattle.tdf_trace.specs.States.{AreStatesOf, IsStateOfColumn, cell_number}
use Rattle.tdf_trace.specs.Tracked.{TrackedOf}
use Rattle.tdf_trace.specs.Traces.{IsTracked, sample_or, with_signal_samples}
use Rattle.tdf_trace.specs.Tracks.{Tracks, known_by, known_cell}
use Rattle.tdf_trace_rows.proofs.Api.{last_same}
use Rattle.tdf_trace_rows.specs.Laws.{Agree}
use Rattle.tdf_trace_rows.specs.Positions.{AreChained, Span, cell_of, count_of_spans, position_at, span_end}
use Rattle.tdf_trace_rows.specs.Rows.{Cells, last}
use Rattle.tdf_trace_states.specs.ColumnStates.{number_at}

-- ---- cells

-- what a cell gives a column
found_cell : (t : ℕ) (cell : Option (Option Raw)) → found t (cell_number cell) ≡ stamp_of_cell t cell
found_cell t None = refl
found_cell t (Some None) = refl
found_cell t (Some (Some v)) = refl

known_number : (cell : Option (Option Raw)) → cell_number (known_cell cell) ≡ cell_number cell
known_number None = refl
known_number (Some None) = refl
known_number (Some (Some v)) = refl

known_same : (cell : Option (Option Raw)) → (cell ≡ Some None → ⊥) → known_cell cell ≡ cell
known_same None known = refl
known_same (Some None) known = absurd (known refl)
known_same (Some (Some v)) known = refl

-- a cell with a number has a position
positioned : (spans : List Span) (samples : List Raw) (t : ℕ) (num : ℤ) → cell_number (cell_of spans samples t) ≡ Some num → (j : ℕ) × (position_at 0 spans t ≡ Some j)
positioned spans samples t num is = go (position_at 0 spans t) refl is
  where
    go : (o : Option ℕ) → position_at 0 spans t ≡ o → cell_number (option_map (slice_get samples) o) ≡ Some num → (j : ℕ) × (position_at 0 spans t ≡ Some j)
    go None at none = absurd (none_some num none)
    go (Some j) at some = (j, at)

module _ (model : PureTree) (flat : Flat) (start : World SideOf) (time : ℕ) (s : Shown) (tells : AreTold flat.tables)
    (shown : IsShown model flat start time (world_before model flat (rules_of model flat) start time) s)
    (due : IsRowsFrom (cells model flat start time s tells shown) time s.trace.rows.upto) where
  abbrev w : World SideOf
  w = world_before model flat (rules_of model flat) start time

  abbrev run : Cells
  run = cells model flat start time s tells shown

  abbrev rows : ℕ
  rows = s.trace.rows.upto

  -- what the rows of the trace stand for
  abbrev noted : Cells
  noted = with_signal_samples flat.tables.traces (events_before model flat start time) (known_by shown.spans shown.samples)

  noted_event : (column t : ℕ) (row : TraceRow) → slice_get flat.tables.traces column ≡ Some row → row.event ≡ true → (b : Bool) → nat_lt t time ≡ b
      → noted.at column t ≡ (if b then event_column_cell model flat (rules_of model flat) start (start_of start.shown column) row.signal t else None)
  noted_event column t row at event b is =
      ap (λ o. sample_or o (λ k. known_by shown.spans shown.samples k t) (event_before model flat start time t (start_of start.shown column) o)) at
      ∙ ap (λ (e : Bool). if e then (if e && nat_lt t time then event_column_cell model flat (rules_of model flat) start (start_of start.shown column) row.signal t else None)
      else known_by shown.spans shown.samples row.signal t) event
      ∙ ap (λ (e : Bool). if e then event_column_cell model flat (rules_of model flat) start (start_of start.shown column) row.signal t else None) is

  noted_sample : (column t : ℕ) (row : TraceRow) → slice_get flat.tables.traces column ≡ Some row → row.event ≡ false → noted.at column t ≡ known_cell (cell_of (shown.spans row.signal) (shown.samples row.signal) t)
  noted_sample column t row at plain =
      ap (λ o. sample_or o (λ k. known_by shown.spans shown.samples k t) (event_before model flat start time t (start_of start.shown column) o)) at
      ∙ ap (λ (e : Bool). if e then (if e && nat_lt t time then event_column_cell model flat (rules_of model flat) start (start_of start.shown column) row.signal t else None)
      else known_by shown.spans shown.samples row.signal t) plain

  -- below the rows that are still to be written they are the cells of the run
  agree_at : (column t : ℕ) → column < length flat.tables.traces → t < rows → noted.at column t ≡ run.at column t
  agree_at column t inside less = let r = get_inside flat.tables.traces column inside in by_event r.0 r.1 r.0.event refl
    where
      by_event : (row : TraceRow) → slice_get flat.tables.traces column ≡ Some row → (b : Bool) → row.event ≡ b → noted.at column t ≡ run.at column t
      by_event row at true event = (let low = due.within in noted_event column t row at event true (lt-ltb t time (omega (arith, low, less))) ∙ sym (event_at model flat start time s tells shown column t row at event))
      by_event row at false plain =
          noted_sample column t row at plain
          ∙ ap known_cell (sym (sample_here model flat start time s tells shown column t row at plain))
          ∙ known_same (run.at column t) (due.known column t inside less)

  agree : Agree noted run rows
  agree = record { columns = refl; first = λ column inside. refl; cells = λ column t inside low. agree_at column t inside low }

  -- ---- one column

  module _ (column : ℕ) (row : TraceRow) (at : slice_get flat.tables.traces column ≡ Some row) (state : ColumnStateOf) (of : IsStateOfColumn noted column rows state) where
    carry_is : state.carry ≡ option_map (λ (value : Raw). value.num) (last run column rows)
    carry_is = of.carry ∙ ap (option_map (λ (v : Raw). v.num)) (last_same noted run rows column rows agree (slice_get_within flat.tables.traces column row at) (omega arith))

    -- its samples up to an end, where the cells below it give all that the trace has
    samples_by : (end : ℕ) → ((t : ℕ) → rows ≤ t → t < end → cell_number (noted.at column t) ≡ cell_number (run.at column t))
        → ((t : ℕ) (num : ℤ) → rows ≤ t → cell_number (noted.at column t) ≡ Some num → t < end)
        → state.samples ≡ stamps_between run column rows end
    samples_by end same below =
        rising_is (end - rows) rows state.samples of.rising (λ i x there. (
        let low = of.first i x there in
        let high = below x.time x.num low (sym (of.samples x.time low) ∙ number_there state.samples of.rising i x there) in
        (low, omega (arith, low, high))))
        ∙ flat_same (λ t. found t (number_at state.samples t)) (λ t. stamp_of_cell t (run.at column t)) rows (end - rows) (λ t low high. (
        let less : t < end = omega (arith, low, high) in
        ap (found t) (of.samples t low ∙ same t low less) ∙ found_cell t (run.at column t)))

    -- a column of an event signal
    event_samples : row.event ≡ true → state.samples ≡ stamps_between run column rows time
    event_samples event = samples_by time
        (λ t low less. ap cell_number (noted_event column t row at event true (lt-ltb t time less) ∙ sym (event_at model flat start time s tells shown column t row at event)))
        (λ t num low is. elim (cases_lt t time) [
          | inl less ↦ less
          | inr past ↦ none_some num (sym (ap cell_number (noted_event column t row at event false (le-ltb t time past))) ∙ is)
        ])

    -- a column of samples
    sample_same : row.event ≡ false → (t : ℕ) → cell_number (noted.at column t) ≡ cell_number (run.at column t)
    sample_same plain t =
        ap cell_number (noted_sample column t row at plain)
        ∙ known_number (cell_of (shown.spans row.signal) (shown.samples row.signal) t)
        ∙ ap cell_number (sym (sample_here model flat start time s tells shown column t row at plain))

    sample_samples : row.event ≡ false → (end : ℕ) → ((t j : ℕ) → position_at 0 (shown.spans row.signal) t ≡ Some j → t < end) → state.samples ≡ stamps_between run column rows end
    sample_samples plain end before = samples_by end (λ t low less. sample_same plain t)
        (λ t num low is. let p = positioned (shown.spans row.signal) (shown.samples row.signal) t num
        (sym (ap cell_number (noted_sample column t row at plain) ∙ known_number (cell_of (shown.spans row.signal) (shown.samples row.signal) t)) ∙ is) in before t p.0 p.1)

    -- the signal of a port
    module _ (plain : row.event ≡ false) (number : ℕ) (driven : driver_of_row (slice_get flat.tables.signals row.signal) ≡ Some number) where
      is : IsDriverOf flat.tables row.signal number
      is = tells.drivers row.signal number driven

      abbrev n : ℕ
      n = slice_index (clusters_of flat.tables) is.port.«module» - 1

      drives : DrivesTraced flat n number is.port
      drives = driving model flat start time s tells shown column number row at plain driven is

      x : IsShownOf model flat start.shown w.clusters n number is.port shown.spans shown.samples s.tracking.list
      x = shown.each n number is.port drives

      own : n + 1 ≡ slice_index (clusters_of flat.tables) is.port.«module»
      own = let c = is.cluster in omega (arith, c)

      start_is : start_of start.shown column ≡ x.start
      start_is = x.starts column row at plain (sym is.writes)

      spans_are : shown.spans row.signal ≡ column_spans is.port x.start x.cluster.origin (periods_of x.cluster)
      spans_are = ap shown.spans (sym is.writes) ∙ x.spans_are

      tracked_is : tracked_of flat.tables w.clusters row ≡ Some (record { port = is.port; cluster = x.cluster })
      tracked_is =
          ap (λ (b : Bool). if b then None else tracked_signal flat.tables w.clusters row.signal) plain
          ∙ ap (λ o. option_and_then (tracked_port flat.tables w.clusters) (option_and_then (slice_get flat.tables.ports) o)) driven
          ∙ ap (option_and_then (tracked_port flat.tables w.clusters)) is.there
          ∙ ap (option_map (λ (c : ClusterAt). record { port = is.port; cluster = c })) x.there

      port_samples : state.samples ≡ stamps_between run column rows (shown_until time (tracked_of flat.tables w.clusters row))
      port_samples = sample_samples plain (x.cluster.since + x.cluster.now.info.period) (λ t j there. before t j there)
          ∙ ap (λ o. stamps_between run column rows (shown_until time o)) (sym tracked_is)
        where
          ends : EndsBy (column_spans is.port x.start x.cluster.origin (periods_of x.cluster)) (x.cluster.origin + time_of_periods x.cluster.old + x.cluster.now.info.period)
          ends = column_ends is.port x.start x.cluster.origin x.cluster.old x.cluster.now x.first

          all_are : shown.spans row.signal ≡ ends.early ++ ends.last ∷ []
          all_are = spans_are ∙ ends.is

          before : (t j : ℕ) → position_at 0 (shown.spans row.signal) t ≡ Some j → t < x.cluster.since + x.cluster.now.info.period
          before t j there =
              let chained : AreChained x.chain.0 (ends.early ++ ends.last ∷ []) = subst (AreChained x.chain.0) (ap shown.spans is.writes ∙ all_are) x.chain.1 in
              let l = before_end x.chain.0 0 ends.early ends.last t j chained (sym (ap (λ ps. position_at 0 ps t) all_are) ∙ there) in
              let r = ends.within in let b = (shown.begun n x.cluster x.there).after_old in omega (arith, l, r, b)

      abbrev samples : List Raw
      samples = shown.samples row.signal

      abbrev a : ℕ
      a = count_of_spans (shown.spans row.signal)

      -- the samples that wait
      port_later : (nums : List ℤ) → (place : ℕ) × (t : TrackedOf) × (slice_get s.tracking.list place ≡ Some t) × (t.signal ≡ row.signal) × (nums ≡ map (λ (v : Raw). v.num) t.waiting)
          → nums ≡ later_of model flat (start_of start.shown column) (tracked_of flat.tables w.clusters row) (driver_of_row (slice_get flat.tables.signals row.signal))
      port_later nums u =
          u.4 ∙ ap (map (λ (v : Raw). v.num)) (rest_waits (shown.spans row.signal) (shown.samples row.signal) u.1 tracks)
          ∙ numbers_are (drop a samples) (sample_at model flat (slice_index (clusters_of flat.tables) is.port.«module») x.cluster x.start is.port number) a gives
          ∙ ap (λ k. flat_map (λ j. number_of_sample (sample_at model flat (slice_index (clusters_of flat.tables) is.port.«module») x.cluster x.start is.port number j)) (range_with_len a k)) long
          ∙ ap (λ b. flat_map (λ j. number_of_sample (sample_at model flat (slice_index (clusters_of flat.tables) is.port.«module») x.cluster x.start is.port number j)) (range_with_len b (samples_done x.start is.port x.cluster - b))) count_is
          ∙ ap (λ c. later_numbers model flat c (record { port = is.port; cluster = x.cluster }) number) (sym start_is)
          ∙ sym (ap (λ o. later_of model flat (start_of start.shown column) o (driver_of_row (slice_get flat.tables.signals row.signal))) tracked_is
          ∙ ap (later_of model flat (start_of start.shown column) (Some (record { port = is.port; cluster = x.cluster }))) driven)
        where
          tracks : Tracks (shown.spans row.signal) (shown.samples row.signal) u.1
          tracks = subst (λ k. Tracks (shown.spans k) (shown.samples k) u.1) u.3 (shown.holds.tracked u.0 u.1 u.2)

          samples_same : shown.samples is.port.signal ≡ samples
          samples_same = ap shown.samples is.writes

          many : length samples ≡ samples_done x.start is.port x.cluster
          many = sym (ap length samples_same) ∙ x.samples_are.many

          long : length (drop a samples) ≡ samples_done x.start is.port x.cluster - a
          long = length-drop a samples ∙ ap (λ k. k - a) many

          count_is : a ≡ count_of_spans (column_spans is.port x.start x.cluster.origin (periods_of x.cluster))
          count_is = ap count_of_spans spans_are

          gives : (i : ℕ) (v : Raw) → slice_get (drop a samples) i ≡ Some v → sample_at model flat (slice_index (clusters_of flat.tables) is.port.«module») x.cluster x.start is.port number (a + i) ≡ Some v
          gives i v there =
              let here : slice_get samples (a + i) ≡ Some v = sym (get_drop a samples i) ∙ there in
              let less = slice_get_within samples (a + i) v here in
              ap (λ k. sample_at model flat k x.cluster x.start is.port number (a + i)) (sym own)
              ∙ ap (λ (b : Bool). if b then sample_known model flat (n + 1) number is.port x.start x.cluster (a + i) else None) (lt-ltb (a + i) (samples_done x.start is.port x.cluster) (omega (arith, less, many)))
              ∙ x.samples_are.are (a + i) v (ap (λ l. slice_get l (a + i)) samples_same ∙ here)

    -- the state with the samples that wait
    abbrev with_later : List ℤ → ColumnStateOf
    with_later nums = record state { later = nums }

    saved_event : row.event ≡ true → (nums : List ℤ) → IsLaterFor (driven_in flat.tables (Some row)) s.tracking.list nums → IsSavedColumn model flat start w run rows time column row (with_later nums)
    saved_event event nums later = record {
      carry = carry_is;
      samples = event_samples event ∙ ap (λ o. stamps_between run column rows (shown_until time o)) (sym none);
      later = none_waits ∙ sym (ap (λ o. later_of model flat (start_of start.shown column) o (driver_of_row (slice_get flat.tables.signals row.signal))) none);
    }
      where
        none : tracked_of flat.tables w.clusters row ≡ None
        none = ap (λ (b : Bool). if b then None else tracked_signal flat.tables w.clusters row.signal) event

        none_waits : nums ≡ []
        none_waits = subst (λ (o : Option ℕ). IsLaterFor o s.tracking.list nums) (ap (λ (b : Bool). if b then None else option_map (λ (number : ℕ). row.signal) (driver_of_row (slice_get flat.tables.signals row.signal))) event) later

    saved_sample : row.event ≡ false → (nums : List ℤ) → IsLaterFor (driven_in flat.tables (Some row)) s.tracking.list nums → (o : Option ℕ) → driver_of_row (slice_get flat.tables.signals row.signal) ≡ o
        → IsSavedColumn model flat start w run rows time column row (with_later nums)
    unfolding position_at
    saved_sample plain nums later None none = record {
      carry = carry_is;
      samples = sample_samples plain time (λ t j there. absurd (none_some j (sym (ap (λ ps. position_at 0 ps t) no_spans) ∙ there)))
          ∙ ap (λ o. stamps_between run column rows (shown_until time o)) (sym untracked);
      later = none_waits ∙ sym (ap (λ o. later_of model flat (start_of start.shown column) o (driver_of_row (slice_get flat.tables.signals row.signal))) untracked);
    }
      where
        untracked : tracked_of flat.tables w.clusters row ≡ None
        untracked =
            ap (λ (b : Bool). if b then None else tracked_signal flat.tables w.clusters row.signal) plain
            ∙ ap (λ o. option_and_then (tracked_port flat.tables w.clusters) (option_and_then (slice_get flat.tables.ports) o)) none

        no_spans : shown.spans row.signal ≡ []
        no_spans = shown.none row.signal (λ place t there same. (
            let l : IsListed flat t = shown.signals.are place t there in
            none_some t.port (sym none ∙ ap (λ k. driver_of_row (slice_get flat.tables.signals k)) (sym same ∙ l.signal_is) ∙ l.drives.driver)))

        none_waits : nums ≡ []
        none_waits = subst (λ (o : Option ℕ). IsLaterFor o s.tracking.list nums)
            (ap (λ (b : Bool). if b then None else option_map (λ (number : ℕ). row.signal) (driver_of_row (slice_get flat.tables.signals row.signal))) plain
            ∙ ap (option_map (λ (number : ℕ). row.signal)) none) later
    saved_sample plain nums later (Some number) driven = record {
      carry = carry_is;
      samples = port_samples plain number driven;
      later = port_later plain number driven nums (u.place, u.it, u.there, u.same, waits.here u.place u.it u.there u.same);
    }
      where
        u : IsTracked s.tracking.list row.signal
        u = shown.holds.of.all column row at plain

        waits : IsLaterOf row.signal s.tracking.list nums
        waits = subst (λ (o : Option ℕ). IsLaterFor o s.tracking.list nums)
            (ap (λ (b : Bool). if b then None else option_map (λ (number : ℕ). row.signal) (driver_of_row (slice_get flat.tables.signals row.signal))) plain
            ∙ ap (option_map (λ (number : ℕ). row.signal)) driven) later

    saved_column : (nums : List ℤ) → IsLaterFor (driven_in flat.tables (Some row)) s.tracking.list nums → IsSavedColumn model flat start w run rows time column row (with_later nums)
    saved_column nums later = by_event row.event refl
      where
        by_event : (b : Bool) → row.event ≡ b → IsSavedColumn model flat start w run rows time column row (with_later nums)
        by_event true event = saved_event event nums later
        by_event false plain = saved_sample plain nums later (driver_of_row (slice_get flat.tables.signals row.signal)) refl

  -- ---- all columns

  module _ (states columns : List ColumnStateOf) (of : AreStatesOf s.trace.rows states) (many : length states ≡ length s.trace.rows.columns) (have : HaveLater flat.tables s.tracking.list (length states) states columns) where
    pub saved_columns : AreSavedColumns model flat start w time columns
    saved_columns = record {
      rows = rows;
      rows_are = due;
      same = have.long ∙ many ∙ shown.holds.stands.count;
      each = λ column row state at there. (
          let inside : column < length states = (let i = slice_get_within columns column state there in let l = have.long in omega (arith, i, l)) in
          let old = get_inside states column inside in
          let h : HasLater flat.tables s.tracking.list column old.0 (slice_get columns column) = have.done column old.0 inside old.1 in
          subst (λ (c : ColumnStateOf). IsSavedColumn model flat start w run rows time column row c) (some_same (record old.0 { later = h.nums }) state (sym h.is ∙ there))
          (saved_column column row at old.0 (of noted shown.holds.stands column old.0 old.1) h.nums
          (subst (λ (o : Option TraceRow). IsLaterFor (driven_in flat.tables o) s.tracking.list h.nums) at h.later)));
    }

pub gives_columns : (flat : Flat) (s : Shown) (states columns : List ColumnStateOf) → AreStatesOf s.trace.rows states → length states ≡ length s.trace.rows.columns → HaveLater flat.tables s.tracking.list (length states) states columns
    → GivesColumns flat s columns
gives_columns flat s states columns of many have model start time is limits shown due = saved_columns model flat start time s (told model flat is limits) shown due states columns of many have
