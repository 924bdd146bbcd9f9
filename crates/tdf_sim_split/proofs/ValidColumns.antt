-- The columns of a snapshot of a run from a start with sound columns are valid.
use Rattle.std.proofs.Common.{◌≡◌, ◌∙◌, ◌<◌, ◌≤◌, ◌+◌, ◌-◌, ℕ, zero, suc, Bool, true, false, if◌then◌else◌, Some, None, option_map, List, [], ◌∷◌, length, map, slice_get, slice_index, refl, ap, sym, subst, inl, inr, arith}
use Rattle.std.proofs.lemmas.Option.{slice_get-map, slice_get_within}
use Rattle.std.proofs.lemmas.List.{length-map}
use Rattle.std.specs.List.{flat_map, range_with_len, sum_by}
use Rattle.std.specs.Prelude.{unwrap_or}
use Rattle.tdf_bind.specs.declared.model.Flat.{Flat}
use Rattle.tdf_bind_connections.specs.declared.drivers.SignalRow.{SignalRow}
use Rattle.tdf_bind_connections.specs.declared.traces.TraceRow.{TraceRow}
use Rattle.tdf_bind_invariants.specs.Limits.{AreWithinLimits}
use Rattle.tdf_dynamic_first.specs.declared.first.First.{First}
use Rattle.tdf_dynamic_plans.specs.Attributes.{clusters_of}
use Rattle.tdf_events.specs.Runnable.{signal_formats}
use Rattle.tdf_events.specs.Side.{SideOf}
use Rattle.tdf_events.specs.State.{IsKernelState, kernel_state_of}
use Rattle.tdf_expr.specs.Plans.{shape_written}
use Rattle.tdf_fixed.specs.declared.raw.Raw.{Raw}
use Rattle.tdf_lang_tree.specs.Pure.{PureTree}
use Rattle.tdf_saved.specs.State.{ClusterStateOf, ColumnStateOf, SnapshotOf}
use Rattle.tdf_sim_history.proofs.Api.{go_on}
use Rattle.tdf_sim_history.specs.Cells.{driver_of_row, event_column_cell, run_cells, signal_cell, trace_cell, world_before}
use Rattle.tdf_sim_history.specs.Columns.{ColumnStart, start_of}
use Rattle.tdf_sim_history.specs.Continuing.{AllGoOn}
use Rattle.tdf_sim_history.specs.History.{On, history}
use Rattle.tdf_sim_history.specs.Instant.{engine, periods_of, run_in}
use Rattle.tdf_sim_history.specs.Rules.{rules_of}
use Rattle.tdf_sim_history.specs.World.{ClusterAt, World}
use Rattle.tdf_sim_history.specs.WorldLaws.{HasDone}
use Rattle.tdf_sim_resumed.specs.Resuming.{resumed_clusters}
use Rattle.tdf_sim_resumed.specs.Snapshot.{AreSavedColumns, IsSavedCluster, IsSavedColumn, later_of, shown_until, stamp_of_cell}
use Rattle.tdf_sim_resumed.specs.Starting.{Tracked, first_unknown, least_within, rows_from_saved, tracked_of, tracked_signal}
use Rattle.tdf_sim_resumed.specs.Valid.{IsValidColumn, IsValidEvents, IsValidTracked}
use Rattle.tdf_sim_split.proofs.Columned.{Driven, HowShown, IsDriven, Nothing, how_shown, numbers_of, same_numbers, tracked_by, tracked_in}
use Rattle.tdf_sim_split.proofs.EventColumns.{no_unknown, valid_events}
use Rattle.tdf_sim_split.proofs.SavedColumns.{after_here, high_here, low_here, sample_cell, valid, valid_nothing}
use Rattle.tdf_sim_split.proofs.Showing.{unknown_from}
use Rattle.tdf_sim_split.proofs.Split.{sound_at}
use Rattle.tdf_sim_split.proofs.Streams.{enough_of}
use Rattle.tdf_sim_split.proofs.Timed.{timed_at}
use Rattle.tdf_sim_split.specs.Columns.{AreAtSame, EventsAreThere, HasSoundColumns, HasValidColumns, IsInFormats, SavedColumnsAreValid}
use Rattle.tdf_sim_split.specs.Following.{IsSoundCluster}
use Rattle.tdf_sim_split.specs.Laws.{AreSound}
use Rattle.tdf_streams.proofs.Api.{get_inside, none_some, some_same}
use Rattle.tdf_streams.specs.Net.{count}
use Rattle.tdf_streams.specs.Signals.{time_of_periods}
use Rattle.tdf_streams_onward.specs.Laws.{FiringsAreEnough}
use Rattle.tdf_trace_rows.specs.Rows.{Cells, last}

-- ---- the least of some times

least_of : (limit x : ℕ) (times : List ℕ) → x ≤ limit → ((k t : ℕ) → slice_get times k ≡ Some t → x ≤ t) → x ≤ least_within limit times
unfolding least_within
least_of limit x [] low each = low
least_of limit x (t ∷ ts) low each = let a = each 0 t refl in let r = least_of limit x ts low (λ k u at. each (suc k) u at) in omega (arith, a, r)

pub least_below : (limit : ℕ) (times : List ℕ) (k t : ℕ) → slice_get times k ≡ Some t → least_within limit times ≤ t
unfolding least_within
least_below limit [] k t at = none_some t at
least_below limit (u ∷ ts) zero t at = let e = some_same u t at in omega (arith, e)
least_below limit (u ∷ ts) (suc k) t at = let r = least_below limit ts k t at in omega (arith, r)

pub least_limit : (limit : ℕ) (times : List ℕ) → least_within limit times ≤ limit
unfolding least_within
least_limit limit [] = omega arith
least_limit limit (u ∷ ts) = let r = least_limit limit ts in omega (arith, r)

mapped_at : {A B : Type 0} (f : A → B) (xs : List A) (k : ℕ) (y : B) → slice_get (map f xs) k ≡ Some y → (x : A) × (slice_get xs k ≡ Some x) × (f x ≡ y)
mapped_at f [] k y at = none_some y at
mapped_at f (x ∷ xs) zero y at = (x, refl, some_same (f x) y at)
mapped_at f (x ∷ xs) (suc k) y at = mapped_at f xs k y at

-- ---- columns of one signal

module _ (model : PureTree) (flat : Flat) (start w : World SideOf) (time : ℕ) (m n : ℕ) (one other : TraceRow) (one_at : slice_get flat.tables.traces m ≡ Some one) (other_at : slice_get flat.tables.traces n ≡ Some other)
    (events : one.event ≡ other.event) (signals : one.signal ≡ other.signal) (begin : start_of start.shown m ≡ start_of start.shown n) where
  abbrev its : Cells
  its = run_cells model flat (rules_of model flat) start time

  cell_same : (t : ℕ) → its.at m t ≡ its.at n t
  cell_same t =
      ap (trace_cell model flat (rules_of model flat) start time t (start_of start.shown m)) one_at
      ∙ (λ i. if events i then event_column_cell model flat (rules_of model flat) start (begin i) (signals i) t
      else signal_cell model flat (begin i) t (world_before model flat (rules_of model flat) start time).clusters (signals i))
      ∙ sym (ap (trace_cell model flat (rules_of model flat) start time t (start_of start.shown n)) other_at)

  last_same : (t : ℕ) → last its m t ≡ last its n t
  unfolding last
  last_same zero = ap (λ (s : ColumnStart). s.carry) begin
  last_same (suc t) = λ i. unwrap_or (cell_same t i) (last_same t i)

  tracked_same : tracked_of flat.tables w.clusters one ≡ tracked_of flat.tables w.clusters other
  tracked_same = λ i. if events i then None else tracked_signal flat.tables w.clusters (signals i)

  pub state_same : (rows : ℕ) (a b : ColumnStateOf) → IsSavedColumn model flat start w its rows time m one a → IsSavedColumn model flat start w its rows time n other b → a ≡ b
  state_same rows a b x y = λ i. record { carry = carries i; samples = samples i; later = later i }
    where
      carries : a.carry ≡ b.carry
      carries = x.carry ∙ ap (option_map (λ (v : Raw). v.num)) (last_same rows) ∙ sym y.carry

      samples : a.samples ≡ b.samples
      samples =
          x.samples
          ∙ (λ i. flat_map (λ t. stamp_of_cell t (cell_same t i)) (range_with_len rows (shown_until time (tracked_same i) - rows)))
          ∙ sym y.samples

      later : a.later ≡ b.later
      later = x.later ∙ (λ i. later_of model flat (begin i) (tracked_same i) (driver_of_row (slice_get flat.tables.signals (signals i)))) ∙ sym y.later

-- ---- all together

module _ (model : PureTree) (flat : Flat) (limits : AreWithinLimits flat) (start w : World SideOf) (first begin time budget : ℕ) (starts : HasSoundColumns model flat first begin start) (early : begin ≤ time)
    (on : history (engine model flat (rules_of model flat)) 0 start time ≡ On w) (sound_start : AreSound flat start) (sound : AreSound flat w)
    (timed : (n : ℕ) (c : ClusterAt) → slice_get w.clusters n ≡ Some c → c.since ≡ c.origin + time_of_periods c.old)
    (done : (n : ℕ) (c : ClusterAt) → slice_get w.clusters n ≡ Some c → HasDone model flat (n + 1) c)
    (firsts : List First) (s : SnapshotOf) (time_is : s.time ≡ time) (saved : AreSavedColumns model flat start w time s.columns) (same : AreAtSame w.clusters (resumed_clusters model flat firsts s [])) where
  abbrev cells : Cells
  cells = run_cells model flat (rules_of model flat) start time

  abbrev others : List ClusterAt
  others = resumed_clusters model flat firsts s []

  abbrev rows : ℕ
  rows = saved.rows

  begun : history (engine model flat (rules_of model flat)) 0 start 0 ≡ On start
  unfolding history
  begun = refl

  goes : AllGoOn start w
  goes = go_on model flat (rules_of model flat) start start 0 begun time w (omega arith) on

  -- the cluster of the resumed world that is that of a port
  module _ (row : TraceRow) (plain : row.event ≡ false) (d : IsDriven flat w.clusters row) where
    abbrev place : ℕ
    place = slice_index (clusters_of flat.tables) d.port.«module» - 1

    resumed : (e : ClusterAt) × (slice_get others place ≡ Some e)
    resumed = get_inside others place (let i = slice_get_within w.clusters place d.cluster d.there in let l = same.same in omega (arith, i, l))

    abbrev x : Tracked
    x = record { port = d.port; cluster = resumed.0 }

    tracked_here : tracked_of flat.tables others row ≡ Some x
    tracked_here = ap (λ (b : Bool). if b then None else tracked_signal flat.tables others row.signal) plain ∙ tracked_in model flat w.clusters row d others resumed.0 resumed.1

    numbers_here : numbers_of x ≡ numbers_of (tracked_by d)
    numbers_here = same_numbers d.port d.cluster resumed.0 (same.each place d.cluster resumed.0 d.there resumed.1)

    unknown_here : first_unknown time (tracked_of flat.tables others row) ≡ unknown_from time (numbers_of (tracked_by d))
    unknown_here = ap (first_unknown time) tracked_here ∙ ap (unknown_from time) numbers_here

  untracked_here : (row : TraceRow) → row.event ≡ false → tracked_signal flat.tables others row.signal ≡ None → tracked_of flat.tables others row ≡ None
  untracked_here row plain none = ap (λ (b : Bool). if b then None else tracked_signal flat.tables others row.signal) plain ∙ none

  -- ---- rows

  rows_to : (row : TraceRow) (n : ℕ) → slice_get flat.tables.traces n ≡ Some row → rows ≤ first_unknown time (tracked_of flat.tables others row)
  rows_to row n at = by_event row.event refl
    where
      low : rows ≤ time
      low = saved.rows_are.within

      by_how : row.event ≡ false → HowShown model flat w.clusters row → rows ≤ first_unknown time (tracked_of flat.tables others row)
      by_how plain (Nothing none cells_none all) = subst (λ o. rows ≤ first_unknown time o) (sym (untracked_here row plain (all others same.same))) low
      by_how plain (Driven d) = subst (λ k. rows ≤ k) (sym (unknown_here row plain d))
          (low_here model flat limits start w first begin time starts early on sound_start sound timed done n row at plain d rows (λ t less. saved.rows_are.known n t (slice_get_within flat.tables.traces n row at) less) low)

      by_event : (b : Bool) → row.event ≡ b → rows ≤ first_unknown time (tracked_of flat.tables others row)
      by_event true event = subst (λ o. rows ≤ first_unknown time o) (sym (ap (λ (b : Bool). if b then None else tracked_signal flat.tables others row.signal) event)) low
      by_event false plain = by_how plain (how_shown model flat w.clusters row)

  abbrev unknowns : List ℕ
  unknowns = map (λ row. first_unknown time (tracked_of flat.tables others row)) flat.tables.traces

  -- a column without a sample there, and what it says
  lacking : (n : ℕ) → n < length flat.tables.traces → cells.at n rows ≡ Some None → (least_within time unknowns ≤ rows) × (first ≤ rows)
  lacking n inside is = let r = get_inside flat.tables.traces n inside in by_event r.0 r.1 r.0.event refl
    where
      by_how : (row : TraceRow) → slice_get flat.tables.traces n ≡ Some row → row.event ≡ false → HowShown model flat w.clusters row → (least_within time unknowns ≤ rows) × (first ≤ rows)
      by_how row at plain (Nothing none cells_none all) =
          none_some None (sym (sample_cell model flat limits start w first begin time starts early on sound_start sound timed done n rows row at plain ∙ cells_none (start_of start.shown n) rows) ∙ is)
      by_how row at plain (Driven d) = (
        (let l = least_below time unknowns n (first_unknown time (tracked_of flat.tables others row)) (slice_get-map (λ (r : TraceRow). first_unknown time (tracked_of flat.tables others r)) flat.tables.traces n ∙ ap (option_map (λ (r : TraceRow). first_unknown time (tracked_of flat.tables others r))) at) in
            let e = unknown_here row plain d in
            let h = high_here model flat limits start w first begin time starts early on sound_start sound timed done n row at plain d rows is in omega (arith, l, e, h)),
        after_here model flat limits start w first begin time starts early on sound_start sound timed done n row at plain d rows is,
      )

      by_event : (row : TraceRow) → slice_get flat.tables.traces n ≡ Some row → (b : Bool) → row.event ≡ b → (least_within time unknowns ≤ rows) × (first ≤ rows)
      by_event row at true event = absurd (no_unknown model flat start w first begin time starts early on n row at event rows is)
      by_event row at false plain = by_how row at plain (how_shown model flat w.clusters row)

  rows_both : (least_within time unknowns ≤ rows) × (first ≤ rows)
  rows_both = elim saved.rows_are.one [
    | inl last ↦ (let l = least_limit time unknowns in omega (arith, l, last), let a = starts.within in omega (arith, a, early, last))
    | inr found ↦ lacking found.0 found.1 found.2
  ]

  rows_same : least_within time unknowns ≡ rows
  rows_same =
      let low = rows_both.0 in
      let high = least_of time rows unknowns saved.rows_are.within (λ k t at. (let r = mapped_at (λ (row : TraceRow). first_unknown time (tracked_of flat.tables others row)) flat.tables.traces k t at in
      subst (λ u. rows ≤ u) r.2 (rows_to r.0 k r.1))) in
      omega (arith, low, high)

  pub rows_are : rows_from_saved model flat firsts s ≡ rows
  rows_are = (λ i. least_within (time_is i) (map (λ row. first_unknown (time_is i) (tracked_of flat.tables others row)) flat.tables.traces)) ∙ rows_same

  -- ---- columns

  module _ (formats : IsInFormats model flat start time s.columns) (tells : EventsAreThere flat.tables) (kernel_is : s.kernel ≡ kernel_state_of w.events) (kernel : IsKernelState flat s.time s.kernel) where
    signal_there : (n : ℕ) (row : TraceRow) → slice_get flat.tables.traces n ≡ Some row → row.event ≡ true → row.signal < length s.kernel.values
    signal_there n row at event =
        let i = tells n row at event in
        let a = kernel.values.long in
        let b = length-map (signal_formats flat) shape_written in
        let c = length-map flat.tables.de_signals (λ (r : SignalRow). r.format) in
        omega (arith, i, a, b, c)

    column_valid : (n : ℕ) (row : TraceRow) (column : ColumnStateOf) → slice_get flat.tables.traces n ≡ Some row → slice_get s.columns n ≡ Some column → IsValidColumn flat rows s row (tracked_of flat.tables others row) column
    column_valid n row column at there = (
      λ event. subst (λ t. IsValidEvents flat rows t s.kernel.values row column) (sym time_is)
          (valid_events model flat start w first begin time starts early on n row at event (λ t less. formats.places n t row at event less) rows saved.rows_are.within rows_both.1 column (saved.each n row column at there)
          s.kernel kernel_is (signal_there n row at event)),
      λ plain. by_how plain (how_shown model flat w.clusters row),
    )
      where
        by_how : row.event ≡ false → HowShown model flat w.clusters row → IsValidTracked rows (tracked_of flat.tables others row) column
        by_how plain (Nothing none cells_none all) = subst (λ o. IsValidTracked rows o column) (sym (untracked_here row plain (all others same.same)))
            (valid_nothing model flat limits start w first begin time starts early on sound_start sound timed done n row at plain rows column (saved.each n row column at there) none (all start.clusters (sym goes.same)) cells_none)
        by_how plain (Driven d) = subst (λ o. IsValidTracked rows o column) (sym (tracked_here row plain d))
            (valid model flat limits start w first begin time starts early on sound_start sound timed done n row at plain d rows saved.rows_are rows_both.1 column (saved.each n row column at there) (x row plain d) (numbers_here row plain d))

    pub columns_valid : HasValidColumns model flat firsts s rows
    columns_valid = record {
      rows_are = rows_are;
      members = saved.same;
      columns = record {
        numbers = formats.numbers;
        each = λ n row column at there. subst (λ k. IsValidColumn flat k s row (tracked_of flat.tables others row) column) (sym rows_are) (column_valid n row column at there);
      };
      alike = record { each = λ m n one other one_at other_at events signals. alike m n one other one_at other_at events signals };
    }
      where
        state_at : (n : ℕ) (row : TraceRow) → slice_get flat.tables.traces n ≡ Some row → (c : ColumnStateOf) × (slice_get s.columns n ≡ Some c)
        state_at n row at = get_inside s.columns n (let i = slice_get_within flat.tables.traces n row at in let l = saved.same in omega (arith, i, l))

        alike : (m n : ℕ) (one other : TraceRow) → slice_get flat.tables.traces m ≡ Some one → slice_get flat.tables.traces n ≡ Some other → one.event ≡ other.event → one.signal ≡ other.signal → slice_get s.columns m ≡ slice_get s.columns n
        alike m n one other one_at other_at events signals =
            let a = state_at m one one_at in
            let b = state_at n other other_at in
            a.1 ∙ ap Some (state_same model flat start w time m n one other one_at other_at events signals (starts.alike m n one other one_at other_at events signals) rows a.0 b.0 (saved.each m one a.0 one_at a.1) (saved.each n other b.0 other_at b.1)) ∙ sym b.1

-- each activation that is done has its value, where a snapshot has the state of its cluster
done_of : FiringsAreEnough → (model : PureTree) (flat : Flat) (limits : AreWithinLimits flat) (number time : ℕ) (c : ClusterAt) (state : ClusterStateOf) → IsSoundCluster flat number c → IsSavedCluster model flat number time c state → HasDone model flat number c
done_of enough model flat limits number time c state sound saved = record {
  records = sound.records;
  plan = sound.plan;
  place = sound.place;
  known = λ m n low. (
      let t = saved.turns m in
      let l : n < sum_by (count m) c.old + slice_index saved.play.turns m = omega (arith, low, t) in
      let v = saved.stands.has_values m n l in
      (v.0, enough_of enough model flat number c.begun (periods_of c) (run_in c).reads limits sound.records saved.steps m n v.0 v.1));
}

pub saved_columns : FiringsAreEnough → SavedColumnsAreValid
saved_columns enough model flat start w first begin time budget vcd s firsts kept checked limits tells sound answers early starts is same kernel formats =
    columns_valid model flat limits start w first begin time budget starts early is.reached sound sound_w (timed_at model flat start starts.timed time answers time (omega arith) w is.reached)
    (λ n c at. (
    let st = get_inside s.clusters n (let i = slice_get_within w.clusters n c at in let l = is.clusters.same in omega (arith, i, l)) in
    done_of enough model flat limits (n + 1) time c st.0 (sound_w.each n c at) (is.clusters.each n c st.0 at st.1)))
    firsts s is.time_is is.columns same formats tells is.side.is kernel
  where
    sound_w : AreSound flat w
    sound_w = sound_at model flat kept checked start sound time answers time (omega arith) w is.reached
