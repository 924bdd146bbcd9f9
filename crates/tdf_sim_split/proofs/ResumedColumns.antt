-- The world that a valid snapshot says begins with sound columns.
use Rattle.std.proofs.Common.{◌≡◌, ◌∙◌, ◌<◌, ◌≤◌, ◌+◌, ◌-◌, ◌*◌, ℕ, ℤ, zero, suc, Bool, true, false, if◌then◌else◌, min, nat_lt, Option, Some, None, option_map, List, [], ◌∷◌, length, length-append, map, slice_get, slice_index, refl, ap, sym, subst, inl, inr, arith}
use Rattle.std.proofs.lemmas.Bool.{cases_lt, le-ltb, lt-ltb}
use Rattle.std.proofs.lemmas.List.{length-map}
use Rattle.std.proofs.lemmas.List.Elements.{All-cons, All-nil}
use Rattle.std.proofs.lemmas.List.FromFn.{length-map-range_with_len}
use Rattle.std.proofs.lemmas.Option.{get_or_from_slice_get, slice_get-map, slice_get_within}
use Rattle.std.specs.List.{enumerate_from, filter, zip}
use Rattle.std.specs.Prelude.{All, IsSome, cond, slice_index_or}
use Rattle.tdf_bind.specs.declared.model.Flat.{Flat}
use Rattle.tdf_bind_connections.specs.declared.drivers.SignalRow.{SignalRow}
use Rattle.tdf_bind_connections.specs.declared.modules.PortRow.{PortRow}
use Rattle.tdf_bind_connections.specs.declared.traces.TraceRow.{TraceRow}
use Rattle.tdf_bind_invariants.specs.Limits.{AreWithinLimits}
use Rattle.tdf_bind_tables.specs.FlatTables.{FlatTablesOf}
use Rattle.tdf_dynamic_first.specs.declared.first.First.{First}
use Rattle.tdf_dynamic_plans.specs.Attributes.{clusters_of}
use Rattle.tdf_events.specs.Runnable.{signal_formats}
use Rattle.tdf_events.specs.Side.{SideOf}
use Rattle.tdf_events.specs.State.{value_in}
use Rattle.tdf_exec_parts.specs.States.{IsStateUnder}
use Rattle.tdf_fixed.specs.declared.format.Format.{Format}
use Rattle.tdf_fixed.specs.declared.raw.Raw.{Raw}
use Rattle.tdf_lang_tree.specs.Pure.{PureTree}
use Rattle.tdf_saved.specs.State.{ClusterStateOf, ColumnStateOf, SnapshotOf}
use Rattle.tdf_saved.specs.declared.state.Stamp.{Stamp as SavedStamp}
use Rattle.tdf_schedule.specs.Plan.{done}
use Rattle.tdf_sim_history.proofs.Api.{port_cluster}
use Rattle.tdf_sim_history.specs.Columns.{ColumnStart, Stamp, no_start, start_of}
use Rattle.tdf_sim_history.specs.Continuing.{HasToldCounts, HasWholePlan}
use Rattle.tdf_sim_history.specs.Instant.{periods_of}
use Rattle.tdf_sim_history.specs.World.{Change, ClusterAt, World}
use Rattle.tdf_sim_history.specs.WorldLaws.{IsClusterOfPort, Shows}
use Rattle.tdf_sim_resumed.proofs.Api.{ResumedAt, plan_whole, resumed_at, whole_is}
use Rattle.tdf_sim_resumed.specs.Laws.{NoneIsDueBefore}
use Rattle.tdf_sim_resumed.specs.Resuming.{resumed_cluster, resumed_clusters}
use Rattle.tdf_sim_resumed.specs.Starting.{Tracked, column_start_of, first_unknown, numbers_ahead, positions_before, resumed_world, row_of_trace, rows_from_saved, stamp_of_trace, stamps_before, stamps_from, tracked_of, tracked_signal, value_of_trace}
use Rattle.tdf_sim_resumed.specs.Valid.{IsValid, IsValidEvents, IsValidNothing, IsValidSamples, IsValidTracked}
use Rattle.tdf_sim_split.proofs.Columned.{Driven, HowShown, IsDriven, Nothing, how_shown, numbers_of, tracked_by, tracked_in, tracked_is}
use Rattle.tdf_sim_split.proofs.Rises.{Rises, rises_less, time_of}
use Rattle.tdf_sim_split.proofs.Showing.{front_before, front_of, front_past, front_within, not_before}
use Rattle.tdf_sim_split.proofs.Spanning.{PeriodNumbers, all_at, time_in}
use Rattle.tdf_sim_split.proofs.ValidColumns.{least_below, least_limit}
use Rattle.tdf_sim_split.specs.Columns.{BeginsIn, EventsAreThere, HasSoundColumns, IsEventStart, IsSampleStart, ResumedBeginWithColumns, StandRising, first_or}
use Rattle.tdf_streams.proofs.Api.{get_inside, none_some, some_same, steps_whole}
use Rattle.tdf_streams.specs.Cluster.{fraction_of_row, zero_sample}
use Rattle.tdf_streams.specs.Laws.{IsClusterPort}
use Rattle.tdf_streams.specs.Periods.{done_before}
use Rattle.tdf_streams.specs.Signals.{rate_in, time_of_periods}
use Rattle.tdf_trace_states.specs.ColumnStates.{DoRise}
use Rattle.tdf_trace_states.specs.Windows.{AreChangesTo, AreRisingFrom}

-- ---- lists

pub get_zip : {A B : Type 0} (xs : List A) (ys : List B) (i : ℕ) (x : A) (y : B) → slice_get xs i ≡ Some x → slice_get ys i ≡ Some y → slice_get (zip xs ys) i ≡ Some (x, y)
get_zip [] ys i x y x_at y_at = none_some x x_at
get_zip (a ∷ xs) [] i x y x_at y_at = none_some y y_at
get_zip (a ∷ xs) (b ∷ ys) zero x y x_at y_at = λ i. Some (some_same a x x_at i, some_same b y y_at i)
get_zip (a ∷ xs) (b ∷ ys) (suc i) x y x_at y_at = get_zip xs ys i x y x_at y_at

-- samples whose times rise
rise_tail : (x : SavedStamp) (xs : List SavedStamp) → DoRise (x ∷ xs) → DoRise xs
rise_tail x xs rise i y z at next = let e : suc i + 1 ≡ suc (i + 1) = omega arith in rise (suc i) y z at (subst (λ n. slice_get (x ∷ xs) n ≡ Some z) (sym e) next)

do_rise : (from : ℕ) (xs : List SavedStamp) → DoRise xs → ((x : SavedStamp) → slice_get xs 0 ≡ Some x → from ≤ x.time) → Rises from (map time_of xs)
do_rise from [] rise low = tt
do_rise from (x ∷ xs) rise low = (low x refl, do_rise (x.time + 1) xs (rise_tail x xs rise) (λ y at. (let l = rise 0 x y refl at in omega (arith, l))))

rises_of : (from : ℕ) (xs : List SavedStamp) → AreRisingFrom from xs → Rises from (map time_of xs)
rises_of from xs rising = do_rise from xs rising.rise (λ x at. all_at (λ (y : SavedStamp). from ≤ y.time) xs 0 x rising.from at)

module _ (tables : FlatTablesOf) (row : TraceRow) where
  abbrev stamp : SavedStamp → Stamp
  stamp x = stamp_of_trace tables row x

  abbrev front : (since : ℕ) → List SavedStamp → List SavedStamp
  front since xs = filter (λ (x : SavedStamp). nat_lt x.time since) xs

  -- those before a time
  stand_before : (from end since : ℕ) (xs : List SavedStamp) → Rises from (map time_of xs) → from ≤ end → since ≤ end → StandRising from (map stamp (front since xs)) end
  stand_before from end since [] rises low before = low
  stand_before from end since (x ∷ xs) rises low before = elim (cases_lt x.time since) [
    | inl less ↦ subst (λ b. StandRising from (map stamp (cond b (x ∷ front since xs) (front since xs))) end) (sym (lt-ltb x.time since less))
        (rises.0, stand_before (x.time + 1) end since xs rises.1 (omega (arith, less, before)) before)
    | inr past ↦ subst (λ b. StandRising from (map stamp (cond b (x ∷ front since xs) (front since xs))) end) (sym (le-ltb x.time since past))
        (stand_before from end since xs (rises_less (x.time + 1) from (map time_of xs) (let l = rises.0 in omega (arith, l)) rises.1) low before)
  ]

  early_before : (since : ℕ) (xs : List SavedStamp) → All (λ (y : Stamp). y.time < since) (map stamp (front since xs))
  early_before since [] = All-nil (λ (y : Stamp). y.time < since)
  early_before since (x ∷ xs) = elim (cases_lt x.time since) [
    | inl less ↦ subst (λ b. All (λ (y : Stamp). y.time < since) (map stamp (cond b (x ∷ front since xs) (front since xs)))) (sym (lt-ltb x.time since less))
        (All-cons (λ (y : Stamp). y.time < since) (stamp x) (map stamp (front since xs)) less (early_before since xs))
    | inr past ↦ subst (λ b. All (λ (y : Stamp). y.time < since) (map stamp (cond b (x ∷ front since xs) (front since xs)))) (sym (le-ltb x.time since past)) (early_before since xs)
  ]

  none_before : (xs : List SavedStamp) → front 0 xs ≡ []
  none_before [] = refl
  none_before (x ∷ xs) = ap (λ b. cond b (x ∷ front 0 xs) (front 0 xs)) (le-ltb x.time 0 (omega arith)) ∙ none_before xs

  first_before : (since : ℕ) (xs : List SavedStamp) (x : SavedStamp) → slice_get xs 0 ≡ Some x → x.time ≡ 0 → 0 < since → first_or (map stamp (front since xs)) since ≡ 0
  first_before since [] x at none later = none_some x at
  first_before since (y ∷ ys) x at none later =
      let e : y.time ≡ 0 = ap (λ (z : SavedStamp). z.time) (some_same y x at) ∙ none in
      ap (λ b. first_or (map stamp (cond b (y ∷ front since ys) (front since ys))) since) (lt-ltb y.time since (omega (arith, e, later))) ∙ e

  -- all of them
  stand_all : (from end : ℕ) (xs : List SavedStamp) → Rises from (map time_of xs) → All (λ (x : SavedStamp). x.time < end) xs → from ≤ end → StandRising from (map stamp xs) end
  stand_all from end [] rises before low = low
  stand_all from end (x ∷ xs) rises before low =
      let l : x.time < end = all_at (λ (y : SavedStamp). y.time < end) (x ∷ xs) 0 x before refl in
      (rises.0, stand_all (x.time + 1) end xs rises.1 (λ j d below. before (suc j) d (omega (arith, below))) (omega (arith, l)))

  nums_are : (xs : List SavedStamp) → map (λ (y : Stamp). y.value.num) (map stamp xs) ≡ map (λ (x : SavedStamp). x.num) xs
  nums_are [] = refl
  nums_are (x ∷ xs) = ap (λ l. x.num ∷ l) (nums_are xs)

-- ---- a column of samples

module _ (model : PureTree) (flat : Flat) (limits : AreWithinLimits flat) (time rows : ℕ) (early : rows ≤ time) (k number : ℕ) (port : PortRow) (of : IsClusterPort flat (k + 1) number port) (first : First) (st : ClusterStateOf)
    (state : IsStateUnder flat (k + 1) st time first.attrs.rows first.plan) (row : TraceRow) (column : ColumnStateOf) where
  abbrev cluster : ClusterAt
  cluster = resumed_cluster model flat (k + 1) time first st []

  abbrev x : Tracked
  x = record { port = port; cluster = cluster }

  abbrev q : PeriodNumbers
  q = numbers_of x

  cut : (0 < q.step) × (q.count * q.step ≡ cluster.now.info.period)
  cut = steps_whole flat (k + 1) number port _ limits of (whole_is flat (k + 1) time first st state).is.timed

  plan : HasWholePlan cluster
  plan = plan_whole flat (k + 1) time first st state model [] (All-nil HasToldCounts)

  time_inside : time ≤ st.start + cluster.now.info.period
  time_inside = elim state.inside [
    | inl none ↦ (let e = none.1 in omega (arith, e))
    | inr some ↦ some.1
  ]

  module _ (valid : IsValidSamples rows x column) (least : rows ≤ first_unknown time (Some x)) where
    abbrev begun : ColumnStart
    begun = column_start_of flat.tables rows row column (Some x)

    abbrev skipped : ℕ
    skipped = front_of rows q

    few : skipped ≤ q.count
    few = front_within q cut.0 rows

    known_late : skipped ≤ q.known
    known_late = elim (cases_lt q.known q.count) [
      | inl less ↦ front_past q cut.0 rows q.known less (
          let e : first_unknown time (Some x) ≡ min time (time_in q q.known) = ap (λ (b : Bool). if b then min time (time_in q q.known) else time) (lt-ltb q.known q.count less) in omega (arith, least, e))
      | inr past ↦ (let f = few in omega (arith, f, past))
    ]

    -- rows begin no later than the first position that isn't skipped
    rows_low : rows ≤ time_in q skipped
    rows_low = elim (cases_lt skipped q.count) [
      | inl less ↦ not_before q cut.0 rows skipped less (omega arith)
      | inr past ↦ (
          let f = few in
          let e : skipped ≡ q.count = omega (arith, f, past) in
          let m = ap (λ i. i * q.step) e in
          let c = cut.1 in
          let t = time_inside in omega (arith, m, c, t, early))
    ]

    given_long : length (stamps_from st.start column) ≡ min q.known q.count - skipped
    given_long =
        sym (length-map (stamps_from st.start column) (λ (y : SavedStamp). y.time)) ∙ ap length valid.known
        ∙ length-map-range_with_len (time_in q) skipped (min q.known q.count - skipped)

    ahead_long : length begun.ahead ≡ min q.known q.count - skipped + (q.known - q.count)
    ahead_long =
        let a = length-map (numbers_ahead st.start column) (value_of_trace flat.tables row) in
        let b = length-append (map (λ (y : SavedStamp). y.num) (stamps_from st.start column)) column.later in
        let c = length-map (stamps_from st.start column) (λ (y : SavedStamp). y.num) in
        let g = given_long in
        let l = valid.later in
        omega (arith, a, b, c, g, l)

    -- what was done before
    done_is : done_before cluster.now port.«module» * rate_in port cluster.now ≡ done cluster.entries cluster.place port.«module» * rate_in port cluster.now
    done_is = ap (λ n. n * rate_in port cluster.now) (
        let c = plan.counts port.«module» in
        let w = plan.whole port.«module» in
        let e : done_before cluster.now port.«module» ≡ done cluster.entries cluster.place port.«module» = omega (arith, c, w) in e)

    first_at_zero : rows ≡ 0 → first_or begun.stamps st.start ≡ 0
    first_at_zero none = elim (cases_lt 0 st.start) [
      | inl later ↦ (let f = valid.first none later in first_before flat.tables row st.start column.samples f.0 f.1 f.2 later)
      | inr past ↦ (
          let z : st.start ≡ 0 = omega (arith, past) in
          ap (λ n. first_or (map (stamp_of_trace flat.tables row) (filter (λ (y : SavedStamp). nat_lt y.time n) column.samples)) n) z
          ∙ ap (λ l. first_or (map (stamp_of_trace flat.tables row) l) 0) (none_before flat.tables row column.samples))
    ]

    pub sample_begins : IsSampleStart rows begun port st.start cluster.now
    sample_begins = record {
      rising = stand_before flat.tables row rows (time_in q skipped) st.start column.samples (rises_of rows column.samples valid.rising) rows_low (omega arith);
      early = early_before flat.tables row st.start column.samples;
      within = few;
      skips = λ i low. front_before q cut.0 rows i (let f = few in omega (arith, f, low)) low;
      held = (let a = ahead_long in let d = done_is in let f = few in let n = known_late in omega (arith, a, d, f, n));
      none = λ none. ap (option_map (value_of_trace flat.tables row)) (valid.none none);
      some = λ some. some_mapped (value_of_trace flat.tables row) column.carry (valid.some some);
      first = first_at_zero;
    }
      where
        some_mapped : {A B : Type 0} (f : A → B) (o : Option A) → IsSome o → IsSome (option_map f o)
        some_mapped f None some = absurd cc
        some_mapped f (Some y) some = refl

-- ---- all columns

module _ (model : PureTree) (flat : Flat) (firsts : List First) (s : SnapshotOf) (ahead : List (List Change)) (limits : AreWithinLimits flat) (valid : IsValid model flat firsts s) (tells : EventsAreThere flat.tables) where
  abbrev start : World SideOf
  start = resumed_world model flat firsts s ahead

  abbrev others : List ClusterAt
  others = resumed_clusters model flat firsts s []

  abbrev rows : ℕ
  rows = rows_from_saved model flat firsts s

  state_at : (n : ℕ) (row : TraceRow) → slice_get flat.tables.traces n ≡ Some row → (c : ColumnStateOf) × (slice_get s.columns n ≡ Some c)
  state_at n row at = get_inside s.columns n (let i = slice_get_within flat.tables.traces n row at in let l = valid.members.columns in omega (arith, i, l))

  start_is : (n : ℕ) (row : TraceRow) (column : ColumnStateOf) → slice_get flat.tables.traces n ≡ Some row → slice_get s.columns n ≡ Some column
      → start_of start.shown n ≡ column_start_of flat.tables rows row column (tracked_of flat.tables others row)
  start_is n row column at there =
      let f : TraceRow × ColumnStateOf → ColumnStart = λ c. column_start_of flat.tables rows c.0 c.1 (tracked_of flat.tables others c.0) in
      get_or_from_slice_get start.shown n (f (row, column)) no_start
      (slice_get-map f (zip flat.tables.traces s.columns) n ∙ ap (option_map f) (get_zip flat.tables.traces s.columns n row column at there))

  least_is : (n : ℕ) (row : TraceRow) → slice_get flat.tables.traces n ≡ Some row → rows ≤ first_unknown s.time (tracked_of flat.tables others row)
  least_is n row at =
      let f : TraceRow → ℕ = λ r. first_unknown s.time (tracked_of flat.tables others r) in
      least_below s.time (map f flat.tables.traces) n (f row) (slice_get-map f flat.tables.traces n ∙ ap (option_map f) at)

  early : rows ≤ s.time
  early = least_limit s.time (map (λ row. first_unknown s.time (tracked_of flat.tables others row)) flat.tables.traces)

  -- the cluster of a port, with what is told of it and without
  module _ (k : ℕ) (c : ClusterAt) (at : slice_get start.clusters k ≡ Some c) where
    r : ResumedAt model flat firsts s ahead k c
    r = resumed_at model flat firsts s ahead k c at

    state : IsStateUnder flat (k + 1) r.state s.time r.first.attrs.rows r.first.plan
    state = valid.clusters.each k r.first r.state r.first_at r.state_at

    again : (e : ClusterAt) × (slice_get others k ≡ Some e)
    again = get_inside others k (
        let f : (List (List Change)) → ℕ × (First × ClusterStateOf) → ClusterAt = λ l z. resumed_cluster model flat (z.0 + 1) s.time z.1.0 z.1.1 (slice_index_or l z.0 []) in
        let i = slice_get_within start.clusters k c at in
        let a = length-map (enumerate_from 0 (zip firsts s.clusters)) (f ahead) in
        let b = length-map (enumerate_from 0 (zip firsts s.clusters)) (f []) in
        omega (arith, i, a, b))

    again_is : again.0 ≡ resumed_cluster model flat (k + 1) s.time r.first r.state []
    again_is =
        let o = resumed_at model flat firsts s [] k again.0 again.1 in
        o.is ∙ (λ i. resumed_cluster model flat (k + 1) s.time (some_same o.first r.first (sym o.first_at ∙ r.first_at) i) (some_same o.state r.state (sym o.state_at ∙ r.state_at) i) [])

  samples_begin : (begun : ColumnStart) (number : ℕ) (port : PortRow) (c : ClusterAt) → Shows flat start.shown begun number port → IsClusterOfPort flat start port c → BeginsIn rows begun port c.origin (periods_of c)
  samples_begin begun number port c shows at =
      subst (λ b. BeginsIn rows b port c.origin (periods_of c)) (sym (start_is shows.column shows.row column.0 shows.there column.1 ∙ ap (column_start_of flat.tables rows shows.row column.0) tracked) ∙ shows.start_is)
      (subst (λ (d : ClusterAt). BeginsIn rows (column_start_of flat.tables rows shows.row column.0 (Some x0)) port d.origin (periods_of d)) (sym (r k c at).is)
      (sample_begins model flat limits s.time rows early k number port of (r k c at).first (r k c at).state (state k c at) shows.row column.0
      (subst (λ o. IsValidTracked rows o column.0) tracked ((valid.columns.each shows.column shows.row column.0 shows.there column.1).1 shows.plain))
      (subst (λ o. rows ≤ first_unknown s.time o) tracked (least_is shows.column shows.row shows.there))))
    where
      own : ℕ
      own = slice_index (clusters_of flat.tables) port.«module»

      k : ℕ
      k = slice_index (clusters_of flat.tables) port.«module» - 1

      of : IsClusterPort flat (k + 1) number port
      of = record { there = shows.port_is; inside = (let p = port_cluster flat number port limits shows.port_is in let e : slice_index (clusters_of flat.tables) port.«module» ≡ slice_index (clusters_of flat.tables) port.«module» - 1 + 1 = omega (arith, p) in e) }

      column : (col : ColumnStateOf) × (slice_get s.columns shows.column ≡ Some col)
      column = state_at shows.column shows.row shows.there

      x0 : Tracked
      x0 = record { port = port; cluster = resumed_cluster model flat (k + 1) s.time (r k c at).first (r k c at).state [] }

      driven : IsDriven flat start.clusters shows.row
      driven = record { number = number; port = port; cluster = c; driver = shows.driver; port_is = shows.port_is; there = at }

      tracked : tracked_of flat.tables others shows.row ≡ Some x0
      tracked =
          ap (λ (b : Bool). if b then None else tracked_signal flat.tables others shows.row.signal) shows.plain
          ∙ tracked_in model flat start.clusters shows.row driven others (again k c at).0 (again k c at).1
          ∙ ap (λ (e : ClusterAt). Some (record { port = port; cluster = e })) (again_is k c at)

  -- a signal that no port drives shows nothing
  nothing_begins : (n : ℕ) (row : TraceRow) → slice_get flat.tables.traces n ≡ Some row → row.event ≡ false → tracked_of flat.tables others row ≡ None → (start_of start.shown n).carry ≡ None
  nothing_begins n row at plain none =
      let c = state_at n row at in
      let v : IsValidNothing c.0 = subst (λ o. IsValidTracked rows o c.0) none ((valid.columns.each n row c.0 at c.1).1 plain) in
      ap (λ (b : ColumnStart). b.carry) (start_is n row c.0 at c.1 ∙ ap (column_start_of flat.tables rows row c.0) none) ∙ ap (option_map (value_of_trace flat.tables row)) v.carry

  -- the value of an event signal
  value_is : (signal : ℕ) (num : ℤ) → slice_get s.kernel.values signal ≡ Some num → signal < length flat.tables.de_signals → (slice_index_or start.events.values signal zero_sample).num ≡ num
  value_is signal num at inside =
      let formats = signal_formats flat in
      let f = get_inside formats signal (let l = length-map flat.tables.de_signals (λ (r : SignalRow). r.format) in omega (arith, inside, l)) in
      let g : Format × ℤ → Raw = λ v. value_in v.0 v.1 in
      ap (λ (v : Raw). v.num) (get_or_from_slice_get start.events.values signal (value_in f.0 num) zero_sample
      (slice_get-map g (zip formats s.kernel.values) signal ∙ ap (option_map g) (get_zip formats s.kernel.values signal f.0 num f.1 at)))

  event_begins : (n : ℕ) (row : TraceRow) → slice_get flat.tables.traces n ≡ Some row → row.event ≡ true
      → IsEventStart rows s.time (start_of start.shown n) (slice_get flat.tables.de_signals row.signal) (slice_index_or start.events.values row.signal zero_sample)
  event_begins n row at event =
      let c = state_at n row at in
      let v : IsValidEvents flat rows s.time s.kernel.values row c.0 = (valid.columns.each n row c.0 at c.1).0 event in
      let none : tracked_of flat.tables others row ≡ None = ap (λ (b : Bool). if b then None else tracked_signal flat.tables others row.signal) event in
      subst (λ b. IsEventStart rows s.time b (slice_get flat.tables.de_signals row.signal) (slice_index_or start.events.values row.signal zero_sample))
      (sym (start_is n row c.0 at c.1 ∙ ap (column_start_of flat.tables rows row c.0) none))
      (record {
        carry = value_of_trace flat.tables row v.carry;
        carried = ap (option_map (value_of_trace flat.tables row)) v.carried;
        starts = v.starts;
        rising = stand_all flat.tables row rows s.time c.0.samples (rises_of rows c.0.samples v.rising) v.before early;
        changes = subst (λ l. AreChangesTo v.carry l (slice_index_or start.events.values row.signal zero_sample).num) (sym (nums_are flat.tables row c.0.samples))
            (subst (AreChangesTo v.carry (map (λ (x : SavedStamp). x.num) c.0.samples)) (sym (value_is row.signal v.value v.value_is (tells n row at event))) v.changes);
      })

  -- columns of one signal begin alike
  row_same : (one other : TraceRow) → one.event ≡ other.event → one.signal ≡ other.signal → row_of_trace flat.tables one ≡ row_of_trace flat.tables other
  row_same one other events signals = λ i. if events i then slice_get flat.tables.de_signals (signals i) else slice_get flat.tables.signals (signals i)

  start_same : (one other : TraceRow) (column : ColumnStateOf) (o : Option Tracked) → one.event ≡ other.event → one.signal ≡ other.signal → column_start_of flat.tables rows one column o ≡ column_start_of flat.tables rows other column o
  start_same one other column None events signals = λ i. record {
    carry = option_map (λ (num : ℤ). record { num = num; frac = fraction_of_row (row_same one other events signals i) }) column.carry;
    stamps = map (λ (y : SavedStamp). record { time = y.time; value = record { num = y.num; frac = fraction_of_row (row_same one other events signals i) } }) column.samples;
    skipped = 0;
    ahead = [];
  }
  start_same one other column (Some x) events signals = λ i. record {
    carry = option_map (λ (num : ℤ). record { num = num; frac = fraction_of_row (row_same one other events signals i) }) column.carry;
    stamps = map (λ (y : SavedStamp). record { time = y.time; value = record { num = y.num; frac = fraction_of_row (row_same one other events signals i) } }) (stamps_before x.cluster.since column);
    skipped = positions_before rows x;
    ahead = map (λ (num : ℤ). record { num = num; frac = fraction_of_row (row_same one other events signals i) }) (numbers_ahead x.cluster.since column);
  }

  alike_begin : (m n : ℕ) (one other : TraceRow) → slice_get flat.tables.traces m ≡ Some one → slice_get flat.tables.traces n ≡ Some other → one.event ≡ other.event → one.signal ≡ other.signal → start_of start.shown m ≡ start_of start.shown n
  alike_begin m n one other one_at other_at events signals =
      let a = state_at m one one_at in
      let b = state_at n other other_at in
      let same : a.0 ≡ b.0 = some_same a.0 b.0 (sym a.1 ∙ valid.alike.each m n one other one_at other_at events signals ∙ b.1) in
      start_is m one a.0 one_at a.1
      ∙ (λ i. column_start_of flat.tables rows one (same i) (if events i then None else tracked_signal flat.tables others (signals i)))
      ∙ start_same one other b.0 (tracked_of flat.tables others other) events signals
      ∙ sym (start_is n other b.0 other_at b.1)

  -- what a port drives doesn't go by what is told
  untold : (row : TraceRow) → row.event ≡ false → tracked_of flat.tables start.clusters row ≡ None → tracked_of flat.tables others row ≡ None
  untold row plain none = go (how_shown model flat start.clusters row)
    where
      long : length others ≡ length start.clusters
      long =
          let f : (List (List Change)) → ℕ × (First × ClusterStateOf) → ClusterAt = λ l z. resumed_cluster model flat (z.0 + 1) s.time z.1.0 z.1.1 (slice_index_or l z.0 []) in
          let a = length-map (enumerate_from 0 (zip firsts s.clusters)) (f ahead) in
          let b = length-map (enumerate_from 0 (zip firsts s.clusters)) (f []) in
          omega (arith, a, b)

      row_tracked : (clusters : List ClusterAt) → tracked_of flat.tables clusters row ≡ tracked_signal flat.tables clusters row.signal
      row_tracked clusters = ap (λ (b : Bool). if b then None else tracked_signal flat.tables clusters row.signal) plain

      go : HowShown model flat start.clusters row → tracked_of flat.tables others row ≡ None
      go (Nothing is cells all) = row_tracked others ∙ all others long
      go (Driven d) = none_some (tracked_by d) (sym none ∙ row_tracked start.clusters ∙ tracked_is model flat start.clusters row d)

  pub resumed_begins : NoneIsDueBefore → HasSoundColumns model flat rows s.time start
  resumed_begins none_due = record {
    within = early;
    quiet = λ t low. none_due model flat firsts s ahead t valid low;
    timed = λ k c at. subst (λ (d : ClusterAt). d.since ≡ d.origin + time_of_periods d.old) (sym (r k c at).is) (zero_more (r k c at).state.start);
    samples = samples_begin;
    nothing = λ n row at plain none. nothing_begins n row at plain (untold row plain none);
    events = event_begins;
    alike = alike_begin;
  }
    where
      zero_more : (n : ℕ) → n ≡ n + 0
      zero_more n = omega arith

pub resumed_begin : NoneIsDueBefore → ResumedBeginWithColumns
resumed_begin none_due model flat firsts s ahead limits valid tells = resumed_begins model flat firsts s ahead limits valid tells none_due
