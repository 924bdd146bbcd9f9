-- The columns of a snapshot are valid.
use Rattle.std.proofs.Common.{◌≡◌, ◌≢◌, ◌∙◌, ◌<◌, ◌≤◌, ◌+◌, ◌-◌, ◌*◌, ◌/◌, ◌++◌, ℕ, zero, suc, Bool, false, if◌then◌else◌, min, nat_lt, not, Option, Some, None, option_map, List, [], ◌∷◌, length, map, slice_get, slice_index, refl, ap, sym, subst, inl, inr, arith}
use Rattle.std.proofs.Math.Nat.{add-mul, div-mul-le_self, mul-le-mul_right, mul_comm}
use Rattle.std.proofs.lemmas.Bool.{cases_lt}
use Rattle.std.proofs.lemmas.Option.{slice_get_within}
use Rattle.std.specs.List.{filter, flat_map, range_with_len}
use Rattle.std.specs.Prelude.{IsSome, unwrap_or}
use Rattle.tdf_bind.specs.declared.model.Flat.{Flat}
use Rattle.tdf_bind_connections.specs.declared.modules.PortRow.{PortRow}
use Rattle.tdf_bind_connections.specs.declared.traces.TraceRow.{TraceRow}
use Rattle.tdf_bind_invariants.specs.Limits.{AreWithinLimits}
use Rattle.tdf_dynamic_plans.specs.Attributes.{clusters_of}
use Rattle.tdf_events.specs.Side.{SideOf}
use Rattle.tdf_fixed.specs.declared.raw.Raw.{Raw}
use Rattle.tdf_lang_tree.specs.Pure.{PureTree}
use Rattle.tdf_saved.specs.State.{ColumnStateOf}
use Rattle.tdf_saved.specs.declared.state.Stamp.{Stamp as SavedStamp}
use Rattle.tdf_sim_history.proofs.Api.{go_on, port_cluster}
use Rattle.tdf_sim_history.specs.Cells.{column_spans, driver_of_row, event_column_cell, run_cells, sample_at, samples_done, signal_cell, trace_cell, world_before, world_of}
use Rattle.tdf_sim_history.specs.Columns.{ColumnStart, start_of}
use Rattle.tdf_sim_history.specs.Continuing.{AllGoOn, Continues}
use Rattle.tdf_sim_history.specs.History.{On, history}
use Rattle.tdf_sim_history.specs.Instant.{engine, periods_of}
use Rattle.tdf_sim_history.specs.Rules.{rules_of}
use Rattle.tdf_sim_history.specs.World.{ClusterAt, World}
use Rattle.tdf_sim_history.specs.WorldLaws.{HasDone, Shows}
use Rattle.tdf_sim_resumed.specs.Snapshot.{IsRowsFrom, IsSavedColumn, later_of, number_of_sample, shown_until, stamp_of_cell, stamps_between}
use Rattle.tdf_sim_resumed.specs.Starting.{Tracked, tracked_of, tracked_signal}
use Rattle.tdf_sim_resumed.specs.Valid.{IsValidNothing, IsValidSamples}
use Rattle.tdf_sim_split.proofs.Columned.{IsDriven, cell_is, in_period, numbers_of, sample_past, sample_there, tracked_by, tracked_is}
use Rattle.tdf_sim_split.proofs.Rises.{found_in, found_rising}
use Rattle.tdf_sim_split.proofs.Showing.{ShowsPositions, first_at, first_found, front_of, known_times, later_many, rows_after, rows_high, rows_low, still_some, unknown_from}
use Rattle.tdf_sim_split.proofs.Spanning.{InPeriod, PeriodNumbers, time_in}
use Rattle.tdf_sim_split.specs.Columns.{BeginsIn, HasSoundColumns}
use Rattle.tdf_sim_split.specs.Following.{IsSoundCluster}
use Rattle.tdf_sim_split.specs.Laws.{AreSound}
use Rattle.tdf_streams.proofs.Api.{get_inside, none_some}
use Rattle.tdf_streams.specs.Laws.{IsClusterPort}
use Rattle.tdf_streams.specs.Periods.{PeriodRecord}
use Rattle.tdf_streams.specs.Signals.{positions, time_of_periods}
use Rattle.tdf_trace_rows.specs.Positions.{count_of_spans}
use Rattle.tdf_trace_rows.specs.Rows.{Cells, last}
use Rattle.tdf_trace_states.specs.Windows.{AreRisingFrom}

-- ---- where columns begin

-- further periods change nothing
begins_more : (rows : ℕ) (s : ColumnStart) (port : PortRow) (origin : ℕ) (ps qs : List PeriodRecord) → BeginsIn rows s port origin ps → BeginsIn rows s port origin (ps ++ qs)
begins_more rows s port origin [] qs begins = absurd begins
begins_more rows s port origin (p ∷ ps) qs begins = begins

-- what its columns carry at first
carries : (rows : ℕ) (s : ColumnStart) (port : PortRow) (origin : ℕ) (ps : List PeriodRecord) → BeginsIn rows s port origin ps → (rows ≡ 0 → s.carry ≡ None) × (0 < rows → IsSome s.carry)
carries rows s port origin [] begins = absurd begins
carries rows s port origin (p ∷ ps) begins = (begins.none, begins.some)

some_mapped : {A B : Type 0} (f : A → B) (o : Option A) → IsSome o → IsSome (option_map f o)
some_mapped f None some = absurd cc
some_mapped f (Some x) some = refl

-- ---- a column that shows nothing

none_found : (cell : ℕ → Option (Option Raw)) (a n : ℕ) → ((t : ℕ) → cell t ≡ None) → found_in cell a n ≡ []
none_found cell a zero none = refl
none_found cell a (suc n) none = ap (λ o. stamp_of_cell a o ++ found_in cell (a + 1) n) (none a) ∙ none_found cell (a + 1) n none

still_none : (cells : Cells) (column t : ℕ) → ((u : ℕ) → cells.at column u ≡ None) → last cells column t ≡ cells.first column
unfolding last
still_none cells column zero none = refl
still_none cells column (suc t) none = ap (λ o. unwrap_or o (last cells column t)) (none t) ∙ still_none cells column t none

module _ (model : PureTree) (flat : Flat) (limits : AreWithinLimits flat) (start w : World SideOf) (first begin time : ℕ) (starts : HasSoundColumns model flat first begin start) (early : begin ≤ time)
    (on : history (engine model flat (rules_of model flat)) 0 start time ≡ On w) (sound_start : AreSound flat start) (sound : AreSound flat w)
    (timed : (n : ℕ) (c : ClusterAt) → slice_get w.clusters n ≡ Some c → c.since ≡ c.origin + time_of_periods c.old)
    (done : (n : ℕ) (c : ClusterAt) → slice_get w.clusters n ≡ Some c → HasDone model flat (n + 1) c) where
  abbrev cells : Cells
  cells = run_cells model flat (rules_of model flat) start time

  begun : history (engine model flat (rules_of model flat)) 0 start 0 ≡ On start
  unfolding history
  begun = refl

  goes : AllGoOn start w
  goes = go_on model flat (rules_of model flat) start start 0 begun time w (omega arith) on

  world_is : world_before model flat (rules_of model flat) start time ≡ w
  world_is = ap world_of on

  -- ---- cells

  pub sample_cell : (n t : ℕ) (row : TraceRow) → slice_get flat.tables.traces n ≡ Some row → row.event ≡ false → cells.at n t ≡ signal_cell model flat (start_of start.shown n) t w.clusters row.signal
  sample_cell n t row at plain =
      ap (trace_cell model flat (rules_of model flat) start time t (start_of start.shown n)) at
      ∙ ap (λ (b : Bool). if b then event_column_cell model flat (rules_of model flat) start (start_of start.shown n) row.signal t
      else signal_cell model flat (start_of start.shown n) t (world_before model flat (rules_of model flat) start time).clusters row.signal) plain
      ∙ ap (λ (v : World SideOf). signal_cell model flat (start_of start.shown n) t v.clusters row.signal) world_is

  -- ---- a signal of samples that no port drives

  module _ (n : ℕ) (row : TraceRow) (at : slice_get flat.tables.traces n ≡ Some row) (plain : row.event ≡ false) (rows : ℕ) (state : ColumnStateOf) (saved : IsSavedColumn model flat start w cells rows time n row state)
      (untracked : tracked_signal flat.tables w.clusters row.signal ≡ None) (untracked_start : tracked_signal flat.tables start.clusters row.signal ≡ None) (none : (s : ColumnStart) (t : ℕ) → signal_cell model flat s t w.clusters row.signal ≡ None) where
    no_cell : (t : ℕ) → cells.at n t ≡ None
    no_cell t = sample_cell n t row at plain ∙ none (start_of start.shown n) t

    untracked_row : (clusters : List ClusterAt) → tracked_signal flat.tables clusters row.signal ≡ None → tracked_of flat.tables clusters row ≡ None
    untracked_row clusters is = ap (λ (b : Bool). if b then None else tracked_signal flat.tables clusters row.signal) plain ∙ is

    pub valid_nothing : IsValidNothing state
    valid_nothing = record {
      carry = saved.carry ∙ ap (option_map (λ (v : Raw). v.num)) (still_none cells n rows no_cell ∙ starts.nothing n row at plain (untracked_row start.clusters untracked_start));
      samples = saved.samples ∙ none_found (cells.at n) rows (shown_until time (tracked_of flat.tables w.clusters row) - rows) no_cell;
      later = saved.later ∙ ap (λ o. later_of model flat (start_of start.shown n) o (driver_of_row (slice_get flat.tables.signals row.signal))) (untracked_row w.clusters untracked);
    }

  -- ---- a signal of samples that a port drives

  module _ (n : ℕ) (row : TraceRow) (at : slice_get flat.tables.traces n ≡ Some row) (plain : row.event ≡ false) (d : IsDriven flat w.clusters row) where
    abbrev s : ColumnStart
    s = start_of start.shown n

    abbrev own : ℕ
    own = slice_index (clusters_of flat.tables) d.port.«module»

    abbrev c : ClusterAt
    c = d.cluster

    some_own : 0 < own
    some_own = port_cluster flat d.number d.port limits d.port_is

    own_is : own - 1 + 1 ≡ own
    own_is = let s = some_own in omega (arith, s)

    sound_c : IsSoundCluster flat own c
    sound_c = subst (λ k. IsSoundCluster flat k c) own_is (sound.each (own - 1) c d.there)

    done_c : HasDone model flat own c
    done_c = subst (λ k. HasDone model flat k c) own_is (done (own - 1) c d.there)

    of : IsClusterPort flat own d.number d.port
    of = record { there = d.port_is; inside = refl }

    old_c : (b : ClusterAt) × (slice_get start.clusters (own - 1) ≡ Some b)
    old_c = get_inside start.clusters (own - 1) (let i = slice_get_within w.clusters (own - 1) c d.there in let l = goes.same in omega (arith, i, l))

    continues : Continues old_c.0 c
    continues = (goes.each (own - 1) old_c.0 c old_c.1 d.there).continues (sound_start.each (own - 1) old_c.0 old_c.1).plan

    begins : BeginsIn first s d.port c.origin (periods_of c)
    begins =
        let shows : Shows flat start.shown s d.number d.port = record { column = n; row = row; there = at; plain = plain; driver = d.driver; port_is = d.port_is; start_is = refl } in
        let b = starts.samples s d.number d.port old_c.0 shows old_c.1 in
        subst (λ o. BeginsIn first s d.port o (periods_of c)) (sym continues.origin)
        (subst (BeginsIn first s d.port old_c.0.origin) (sym continues.longer.periods)
        (begins_more first s d.port old_c.0.origin (periods_of old_c.0) continues.longer.rest b))

    abbrev q : PeriodNumbers
    q = numbers_of (tracked_by d)

    abbrev total : ℕ
    total = samples_done s d.port c

    period : InPeriod first (column_spans d.port s c.origin (periods_of c)) total q
    period = in_period flat limits d.number own d.port of c.begun first s c.old c.now c.origin c.since c.from c.place c.entries begins sound_c.records (timed (own - 1) c d.there) sound_c.from
        (sound_c.plan.counts d.port.«module») (sound_c.plan.whole d.port.«module»)

    shows : ShowsPositions (cells.at n) (column_spans d.port s c.origin (periods_of c)) total
    shows = record {
      sample = sample_at model flat own c s d.port d.number;
      is = λ t. sample_cell n t row at plain ∙ cell_is model flat w.clusters row d s t;
      there = sample_there model flat own c done_c s d.port d.number;
      past = sample_past model flat own c done_c s d.port d.number;
    }

    -- a time without a sample, by the time from which on all are there
    pub low_here : (rows : ℕ) → ((t : ℕ) → t < rows → cells.at n t ≢ Some None) → rows ≤ time → rows ≤ unknown_from time q
    low_here rows known within = rows_low (cells.at n) (column_spans d.port s c.origin (periods_of c)) total first q period shows rows time known within

    pub high_here : (rows : ℕ) → cells.at n rows ≡ Some None → unknown_from time q ≤ rows
    high_here rows is = rows_high (cells.at n) (column_spans d.port s c.origin (periods_of c)) total first q period shows rows time is

    pub after_here : (rows : ℕ) → cells.at n rows ≡ Some None → first ≤ rows
    after_here rows is = rows_after (cells.at n) (column_spans d.port s c.origin (periods_of c)) total first q period shows rows is

    tracked_w : tracked_of flat.tables w.clusters row ≡ Some (tracked_by d)
    tracked_w = ap (λ (b : Bool). if b then None else tracked_signal flat.tables w.clusters row.signal) plain ∙ tracked_is model flat w.clusters row d

    -- its state
    module _ (rows : ℕ) (due : IsRowsFrom cells time rows) (after : first ≤ rows) (state : ColumnStateOf) (saved : IsSavedColumn model flat start w cells rows time n row state) where
      known : (t : ℕ) → t < rows → cells.at n t ≢ Some None
      known t low = due.known n t (slice_get_within flat.tables.traces n row at) low

      abbrev until : ℕ
      until = c.since + c.now.info.period

      samples_are : state.samples ≡ found_in (cells.at n) rows (until - rows)
      samples_are = saved.samples ∙ ap (λ o. stamps_between cells n rows (shown_until time o)) tracked_w

      inside : (i : ℕ) → i < q.count → time_in q i < until
      inside i low =
          let m : (i + 1) * q.step ≤ q.count * q.step = mul-le-mul_right q.step (omega (arith, low)) in
          let a = add-mul i 1 q.step in
          let s = period.step in
          let z : c.now.info.period / positions d.port c.now * positions d.port c.now ≤ c.now.info.period = div-mul-le_self c.now.info.period (positions d.port c.now) in
          let e : q.count * q.step ≡ c.now.info.period / positions d.port c.now * positions d.port c.now = mul_comm q.count q.step in
          omega (arith, m, a, s, z, e)

      later_are : state.later ≡ flat_map (λ j. number_of_sample (sample_at model flat own c s d.port d.number j))
          (range_with_len (count_of_spans (column_spans d.port s c.origin (periods_of c))) (total - count_of_spans (column_spans d.port s c.origin (periods_of c))))
      later_are = saved.later ∙ ap (λ o. later_of model flat s o (driver_of_row (slice_get flat.tables.signals row.signal))) tracked_w ∙ ap (later_of model flat s (Some (tracked_by d))) d.driver

      carry_some : (k : ℕ) → k ≡ rows → 0 < k → IsSome (last cells n k)
      unfolding last
      carry_some zero is some = absurd (omega (arith, some))
      carry_some (suc k) is some = elim (cases_lt 0 first) [
        | inl later ↦ (let z : 0 + suc k ≡ suc k = omega arith in subst (λ m. IsSome (last cells n m)) z (still_some cells n 0 (suc k) (begins_some later) (λ t low. known t (omega (arith, low, is)))))
        | inr none ↦ (
            let f : first ≡ 0 = omega (arith, none) in
            let z : 1 + k ≡ suc k = omega arith in
            subst (λ m. IsSome (last cells n m)) z (still_some cells n 1 k (first_some f) (λ t low. known t (omega (arith, low, is)))))
      ]
        where
          is_rows : 0 < rows
          is_rows = omega (arith, is, some)

          begins_some : 0 < first → IsSome (last cells n 0)
          begins_some later = (carries first s d.port c.origin (periods_of c) begins).1 later

          first_some : first ≡ 0 → IsSome (last cells n 1)
          first_some none = go (cells.at n 0) refl
            where
              there : cells.at n 0 ≡ Some (shows.sample 0)
              there = shows.is 0 ∙ ap (option_map shows.sample) (first_at (cells.at n) (column_spans d.port s c.origin (periods_of c)) total first q period shows none)

              go : (o : Option (Option Raw)) → cells.at n 0 ≡ o → IsSome (unwrap_or o (last cells n 0))
              go None is = none_some (shows.sample 0) (sym is ∙ there)
              go (Some None) is = absurd (known 0 (omega (arith, is_rows)) is)
              go (Some (Some v)) is = refl

      -- what validity asks of it, by the numbers of the period
      abbrev KnownBy : PeriodNumbers → Type 0
      KnownBy y = map (λ (x : SavedStamp). x.time) (filter (λ (x : SavedStamp). not (nat_lt x.time y.since)) state.samples) ≡ map (time_in y) (range_with_len (front_of rows y) (min y.known y.count - front_of rows y))

      known_by : KnownBy q
      known_by = ap (λ l. map (λ (x : SavedStamp). x.time) (filter (λ (x : SavedStamp). not (nat_lt x.time q.since)) l)) samples_are
          ∙ known_times (cells.at n) (column_spans d.port s c.origin (periods_of c)) total first q period shows rows after until inside

      later_by : length state.later ≡ q.known - q.count
      unfolding shows
      later_by = ap length later_are ∙ later_many (cells.at n) (column_spans d.port s c.origin (periods_of c)) total first q period shows

      carry_none : rows ≡ 0 → state.carry ≡ None
      unfolding last
      carry_none none =
          saved.carry ∙ ap (λ k. option_map (λ (v : Raw). v.num) (last cells n k)) none
          ∙ ap (option_map (λ (v : Raw). v.num)) ((carries first s d.port c.origin (periods_of c) begins).0 (omega (arith, none, after)))

      first_by : rows ≡ 0 → 0 < q.since → (x : SavedStamp) × (slice_get state.samples 0 ≡ Some x) × (x.time ≡ 0)
      first_by none later =
          let f = first_found (cells.at n) (column_spans d.port s c.origin (periods_of c)) total first q period shows until (omega (arith, none, after)) later (omega (arith, later)) in
          let z : until - 0 ≡ until = omega arith in
          (f.0, ap (λ l. slice_get l 0) (samples_are ∙ ap (λ k. found_in (cells.at n) k (until - k)) none ∙ ap (found_in (cells.at n) 0) z) ∙ f.1, f.2)

      pub valid : (x : Tracked) → numbers_of x ≡ q → IsValidSamples rows x state
      valid x same = record {
        rising = subst (AreRisingFrom rows) (sym samples_are) (found_rising (cells.at n) rows (until - rows));
        known = subst KnownBy (sym same) known_by;
        later = later_by ∙ ap (λ (y : PeriodNumbers). y.known - y.count) (sym same);
        none = carry_none;
        some = λ some. subst IsSome (sym saved.carry) (some_mapped (λ (v : Raw). v.num) (last cells n rows) (carry_some rows refl some));
        first = λ none later. first_by none (subst (λ (y : PeriodNumbers). 0 < y.since) same later);
      }
