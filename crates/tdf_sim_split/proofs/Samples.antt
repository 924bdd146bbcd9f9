-- A signal of samples in a run that goes on: from the time on from which rows are still to be written it has the cells of the whole run, and before none.
use Rattle.std.proofs.Common.{◌≡◌, ◌≢◌, ◌∙◌, ◌<◌, ◌≤◌, ◌+◌, ◌-◌, ◌*◌, ◌/◌, ◌++◌, ℕ, ℤ, zero, suc, Bool, true, false, if◌then◌else◌, min, nat_lt, Option, Some, None, option_map, List, [], ◌∷◌, length, length-append, map, slice_get, slice_index, refl, ap, sym, subst, inl, inr, arith, mul-le-mul_right}
use Rattle.std.proofs.Math.Nat.{add-mul}
use Rattle.std.proofs.lemmas.Bool.{cases_lt, le-ltb, lt-ltb, ltb-true}
use Rattle.std.proofs.lemmas.List.{length-map}
use Rattle.std.proofs.lemmas.List.FromFn.{length-map-range_with_len}
use Rattle.std.proofs.lemmas.List.Sums.{sum_by-cons}
use Rattle.std.proofs.lemmas.Option.{slice_get-map, slice_get_within}
use Rattle.std.specs.List.{flat_map, range_with_len, sum_by}
use Rattle.std.specs.Prelude.{filter}
use Rattle.tdf_bind.specs.Flat.{IsFlatOf}
use Rattle.tdf_bind.specs.declared.model.Flat.{Flat}
use Rattle.tdf_bind_connections.specs.declared.modules.PortRow.{PortRow}
use Rattle.tdf_bind_connections.specs.declared.traces.TraceRow.{TraceRow}
use Rattle.tdf_bind_invariants.specs.Limits.{AreWithinLimits}
use Rattle.tdf_dynamic_plans.specs.Rates.{port_rate}
use Rattle.tdf_exec_layout.specs.Wires.{SinksHaveOne}
use Rattle.tdf_fixed.specs.declared.raw.Raw.{Raw}
use Rattle.tdf_lang_tree.specs.Pure.{PureTree}
use Rattle.tdf_saved.specs.State.{ColumnStateOf}
use Rattle.tdf_saved.specs.declared.state.Stamp.{Stamp as SavedStamp}
use Rattle.tdf_schedule.specs.Plan.{done}
use Rattle.tdf_sim_history.proofs.Api.{AreRising, cell_stays, first_time, held_long, record_at, sample_stays, stamps_chain, stamps_early, stamps_late}
use Rattle.tdf_sim_history.specs.Cells.{column_spans, outputs_done, port_cell, sample_at, sample_of, samples_done, spans_from}
use Rattle.tdf_sim_history.specs.Columns.{ColumnStart, Stamp, held_by, span_after, spans_to}
use Rattle.tdf_sim_history.specs.Continuing.{Continues}
use Rattle.tdf_sim_history.specs.Instant.{acts_now, periods_of, run_in}
use Rattle.tdf_sim_history.specs.World.{ClusterAt}
use Rattle.tdf_sim_history.specs.WorldLaws.{HasDone, HoldsFirst, SamplesAreThere}
use Rattle.tdf_sim_resumed.specs.Snapshot.{number_of_sample}
use Rattle.tdf_sim_resumed.specs.Starting.{Tracked, column_start_of, known_count, numbers_ahead, position_count, positions_before, stamp_of_trace, stamps_before, stamps_from, time_of_position, value_of_trace}
use Rattle.tdf_sim_resumed.specs.Valid.{IsValidSamples}
use Rattle.tdf_sim_split.proofs.Order.{rising_below}
use Rattle.tdf_sim_split.proofs.Sound.{none_before}
use Rattle.tdf_sim_split.proofs.Spans.{AreCut, IsCut, IsFront, cells_meet, front_is, spans_append, spans_chained, spans_count, spans_end, text_spans, time_behind, time_in_front, time_skipped}
use Rattle.tdf_sim_split.proofs.Stamped.{IsShown, early_rise, has_shown, kept_there, shown_at, stamp_for, stamps_in, there_kept}
use Rattle.tdf_sim_split.proofs.Streams.{HasLater, enough_of, has, output_same, outputs_are}
use Rattle.tdf_sim_split.proofs.Timely.{IsTimely}
use Rattle.tdf_sim_split.specs.Following.{Follows, IsResumedCluster, IsSoundCluster}
use Rattle.tdf_streams.proofs.Api.{get_high, get_inside, get_low, get_made_at, none_some, some_same, steps_whole}
use Rattle.tdf_streams.specs.Cluster.{cluster_net}
use Rattle.tdf_streams.specs.Grounds.{firings}
use Rattle.tdf_streams.specs.Laws.{IsClusterPort}
use Rattle.tdf_streams.specs.Net.{Past}
use Rattle.tdf_streams.specs.Periods.{PeriodInfo, PeriodRecord}
use Rattle.tdf_streams.specs.Signals.{outputs_in, port_output, positions, rate_in, step_in, time_of_periods}
use Rattle.tdf_streams.specs.Streams.{known}
use Rattle.tdf_streams_onward.specs.Laws.{BodiesGoByTable, FiringsAreEnough, StreamsGoOn}
use Rattle.tdf_trace_rows.proofs.Api.{position_is, time_is}
use Rattle.tdf_trace_rows.specs.Positions.{AreChained, Span, count_of_spans, position_at, span_of, time_in_spans}

-- ---- lists

-- numbers of samples that are all there, as their count says
numbers_few : (f : ℕ → Option Raw) (a n : ℕ) → length (flat_map (λ j. number_of_sample (f j)) (range_with_len a n)) ≤ n
numbers_few f a zero = omega arith
numbers_few f a (suc n) = go (numbers_few f (a + 1) n) (f a)
  where
    go : length (flat_map (λ j. number_of_sample (f j)) (range_with_len (a + 1) n)) ≤ n → (o : Option Raw) → length (number_of_sample o ++ flat_map (λ j. number_of_sample (f j)) (range_with_len (a + 1) n)) ≤ suc n
    go few None = omega (arith, few)
    go few (Some v) = omega (arith, few)

pub numbers_are : (f : ℕ → Option Raw) (a n k : ℕ) → n ≤ length (flat_map (λ j. number_of_sample (f j)) (range_with_len a n)) → k < n
    → (v : Raw) × (f (a + k) ≡ Some v) × (slice_get (flat_map (λ j. number_of_sample (f j)) (range_with_len a n)) k ≡ Some v.num)
numbers_are f a zero k long inside = absurd (omega (arith, inside))
numbers_are f a (suc n) k long inside = go (λ j many less. numbers_are f (a + 1) n j many less) (f a) refl long
  where
    rest : List ℤ
    rest = flat_map (λ j. number_of_sample (f j)) (range_with_len (a + 1) n)

    go : ((j : ℕ) → n ≤ length rest → j < n → (v : Raw) × (f (a + 1 + j) ≡ Some v) × (slice_get rest j ≡ Some v.num))
        → (o : Option Raw) → f a ≡ o → suc n ≤ length (number_of_sample o ++ rest) → (v : Raw) × (f (a + k) ≡ Some v) × (slice_get (number_of_sample o ++ rest) k ≡ Some v.num)
    go later None is many = absurd (let r = numbers_few f (a + 1) n in omega (arith, r, many))
    go later (Some v) is many = at k inside
      where
        at : (j : ℕ) → j < suc n → (w : Raw) × (f (a + j) ≡ Some w) × (slice_get (v.num ∷ rest) j ≡ Some w.num)
        at zero less = let z : a + 0 ≡ a = omega arith in (v, ap f z ∙ is, refl)
        at (suc j) less =
            let r = later j (omega (arith, many)) (omega (arith, less)) in
            let z : a + suc j ≡ a + 1 + j = omega arith in
            (r.0, ap f z ∙ r.1, r.2)

-- whole periods have as many outputs of a port as positions of its signal
sums_same : (port : PortRow) (ps : List PeriodRecord) → ((k : ℕ) (p : PeriodRecord) → slice_get ps k ≡ Some p → p.counts ≡ p.info.counts) → sum_by (outputs_in port) ps ≡ sum_by (positions port) ps
sums_same port [] whole = refl
sums_same port (p ∷ ps) whole =
    let a = sum_by-cons (outputs_in port) p ps in
    let b = sum_by-cons (positions port) p ps in
    let e : outputs_in port p ≡ positions port p = ap (λ l. slice_index l port.«module» * rate_in port p) (whole 0 p refl) in
    let r = sums_same port ps (λ k q at. whole (suc k) q at) in omega (arith, a, b, e, r)

-- a column that begins as the text says it: nothing stands at a time, no position is left out, and the initial samples are ahead
pub record BeginsWithText (s : ColumnStart) (port : PortRow) : Type 0 where
  pub stamps : s.stamps ≡ []
  pub skipped : s.skipped ≡ 0
  pub ahead : length s.ahead ≡ port.delay

module _ (there : SamplesAreThere) (by_table : BodiesGoByTable) (goes_on : StreamsGoOn) (enough : FiringsAreEnough) (model : PureTree) (flat : Flat) (is_flat : IsFlatOf model flat) (limits : AreWithinLimits flat) (sinks : SinksHaveOne flat.tables) (number : ℕ)
    (c b h g : ClusterAt) (resumed : IsResumedCluster model flat number c b) (follows : Follows c b h g) (sound_c : IsSoundCluster flat number c) (sound_h : IsSoundCluster flat number h) (sound_g : IsSoundCluster flat number g)
    (timely : IsTimely c) (longer : Continues c h) (origin_g : g.origin ≡ c.since) (x : Tracked) (out : ℕ) (of : IsClusterPort flat number out x.port)
    (since_is : x.cluster.since ≡ c.since) (place_is : x.cluster.place ≡ c.place) (entries_is : x.cluster.entries ≡ c.entries) (info_is : x.cluster.now.info ≡ b.now.info)
    (start : ColumnStart) (text : BeginsWithText start x.port) where
  abbrev port : PortRow
  port = x.port

  abbrev since : ℕ
  since = c.since

  abbrev step : ℕ
  step = step_in port c.now

  abbrev count : ℕ
  count = positions port c.now

  abbrev period : ℕ
  period = c.now.info.period

  -- the cell of a time when it waited, and in the end
  abbrev pub cell_then : ℕ → Option (Option Raw)
  cell_then time = port_cell model flat number start port out time (Some c)

  abbrev pub cell_whole : ℕ → Option (Option Raw)
  cell_whole time = port_cell model flat number start port out time (Some h)

  abbrev pub sample_then : ℕ → Option Raw
  sample_then j = sample_at model flat number c start port out j

  abbrev sample_whole : ℕ → Option Raw
  sample_whole j = sample_at model flat number h start port out j

  -- ---- the period in progress, as the resumed world says it

  info_same : x.cluster.now.info ≡ record c.now.info { is_new = false }
  info_same = info_is ∙ resumed.rest.info

  step_same : step_in port x.cluster.now ≡ step
  step_same = ap (λ (i : PeriodInfo). i.period / (slice_index i.counts port.«module» * port_rate i.table port)) info_same

  count_same : position_count x ≡ count
  count_same = ap (λ (i : PeriodInfo). slice_index i.counts port.«module» * port_rate i.table port) info_same

  rate_same : rate_in port x.cluster.now ≡ rate_in port c.now
  rate_same = ap (λ (i : PeriodInfo). port_rate i.table port) info_same

  time_same : (i : ℕ) → time_of_position x i ≡ since + i * step
  time_same i = λ j. since_is j + i * step_same j

  -- ---- how many samples there are

  abbrev old_count : ℕ
  old_count = sum_by (positions port) c.old

  first_held : length (held_by start) ≡ port.delay
  first_held = let l = held_long start in let s = ap (λ (xs : List Stamp). length xs) text.stamps in let a = text.ahead in omega (arith, l, s, a)

  acts_are : acts_now c port.«module» ≡ done c.entries c.place port.«module»
  acts_are =
      let f = ap (λ i. done c.entries i port.«module») timely.from in
      let z = none_before c.entries port.«module» in omega (arith, f, z)

  old_outputs : sum_by (outputs_in port) c.old ≡ old_count
  old_outputs = sums_same port c.old (λ k p at. timely.whole k p (get_low c.old (c.now ∷ []) k (slice_get_within c.old k p at) ∙ at))

  known_is : known_count x ≡ port.delay + acts_now c port.«module» * rate_in port c.now
  known_is =
      let a : done x.cluster.entries x.cluster.place port.«module» * rate_in port x.cluster.now ≡ done c.entries c.place port.«module» * rate_in port c.now = (λ i. done (entries_is i) (place_is i) port.«module» * rate_same i) in
      let b = ap (λ k. k * rate_in port c.now) acts_are in omega (arith, a, b)

  -- those of the period in progress come after the positions before it
  samples_then : samples_done start port c ≡ old_count + known_count x
  samples_then = let f = first_held in let o = old_outputs in let k = known_is in omega (arith, f, o, k)

  done_c : HasDone model flat number c
  done_c = record {
    records = sound_c.records;
    plan = sound_c.plan;
    place = sound_c.place;
    known = λ m n less. (
        let t = resumed.turns m in
        let v = resumed.stands.has_values m n (omega (arith, t, less)) in
        (v.0, enough_of enough model flat number c.begun (periods_of c) (run_in c).reads limits sound_c.records resumed.steps m n v.0 v.1));
  }

  -- ---- the spans

  later : HasLater by_table goes_on enough model flat is_flat limits sinks number c b h g resumed follows sound_c sound_h sound_g
  later = has by_table goes_on enough model flat is_flat limits sinks number c b h g resumed follows sound_c sound_h sound_g

  cut_of : (d : ClusterAt) → IsSoundCluster flat number d → AreCut port (periods_of d)
  cut_of d sound k p at = steps_whole flat number out port p limits of (record_at flat number d.begun (periods_of d) k p sound.records at).timed

  all_cut : AreCut port (c.old ++ c.now ∷ later.later)
  all_cut = subst (AreCut port) later.whole (cut_of h sound_h)

  now_cut : IsCut port c.now
  now_cut = all_cut (length c.old) c.now (let z : length c.old - length c.old ≡ 0 = omega arith in get_high c.old (c.now ∷ later.later) (length c.old) (omega arith) ∙ ap (slice_get (c.now ∷ later.later)) z)

  later_cut : AreCut port later.later
  later_cut k p at = all_cut (length c.old + suc k) p (
      let z : length c.old + suc k - length c.old ≡ suc k = omega arith in
      get_high c.old (c.now ∷ later.later) (length c.old + suc k) (omega arith) ∙ ap (slice_get (c.now ∷ later.later)) z ∙ at)

  old_cut : AreCut port c.old
  old_cut k p at = all_cut k p (get_low c.old (c.now ∷ later.later) k (slice_get_within c.old k p at) ∙ at)

  abbrev old_spans : List Span
  old_spans = spans_from port c.origin c.old

  abbrev later_spans : List Span
  later_spans = spans_from port (since + period) later.later

  abbrev now_span : Span
  now_span = span_of since step count

  abbrev whole_spans : List Span
  whole_spans = old_spans ++ now_span ∷ later_spans

  abbrev then_spans : List Span
  then_spans = old_spans ++ now_span ∷ []

  spans_of : (ps : List PeriodRecord) → spans_from port c.origin (c.old ++ c.now ∷ ps) ≡ old_spans ++ now_span ∷ spans_from port (since + period) ps
  spans_of ps = spans_append port c.origin c.old (c.now ∷ ps) ∙ ap (λ t. old_spans ++ spans_from port t (c.now ∷ ps)) (sym timely.since)

  whole_is : column_spans port start h.origin (periods_of h) ≡ whole_spans
  whole_is = text_spans port start h.origin (periods_of h) text.stamps text.skipped ∙ (λ i. spans_from port (longer.origin i) (later.whole i)) ∙ spans_of later.later

  then_is : column_spans port start c.origin (periods_of c) ≡ then_spans
  then_is = text_spans port start c.origin (periods_of c) text.stamps text.skipped ∙ spans_of []

  whole_chained : AreChained c.origin whole_spans
  whole_chained = subst (AreChained c.origin) (spans_of later.later) (spans_chained port c.origin (c.old ++ c.now ∷ later.later) all_cut)

  then_chained : AreChained c.origin then_spans
  then_chained = subst (AreChained c.origin) (spans_of []) (spans_chained port c.origin (periods_of c) (cut_of c sound_c))

  old_long : count_of_spans old_spans ≡ old_count
  old_long = spans_count port c.origin c.old

  -- a position of the periods before lies before the period in progress
  old_early : (more : List Span) (j t : ℕ) → j < old_count → time_in_spans (old_spans ++ more) j ≡ Some t → t < since
  old_early more j t low at =
      let l = old_long in
      let e = spans_end port c.origin c.old j t old_cut (sym (time_in_front old_spans more j (omega (arith, l, low))) ∙ at) in
      let s = timely.since in omega (arith, e, s)

  -- a position from there on
  new_time : (more : List Span) (k : ℕ) → time_in_spans (old_spans ++ now_span ∷ more) (old_count + k) ≡ time_in_spans (now_span ∷ more) k
  new_time more k = ap (λ n. time_in_spans (old_spans ++ now_span ∷ more) (n + k)) (sym old_long) ∙ time_behind old_spans (now_span ∷ more) k

  now_time : (more : List Span) (i : ℕ) → i < count → time_in_spans (now_span ∷ more) i ≡ Some (since + i * step)
  unfolding time_in_spans
  now_time more i inside = rw (lt-ltb i count inside) refl

  past_time : (more : List Span) (i : ℕ) → count ≤ i → time_in_spans (now_span ∷ more) i ≡ time_in_spans more (i - count)
  unfolding time_in_spans
  past_time more i past = rw (le-ltb i count past) refl

  -- a position of a later period lies after the period in progress
  later_late : (i t : ℕ) → time_in_spans later_spans i ≡ Some t → since + period ≤ t
  later_late i t at = (time_is (since + period) 0 later_spans i t (spans_chained port (since + period) later.later later_cut) at).0

  new_late : (k t : ℕ) → time_in_spans (now_span ∷ later_spans) k ≡ Some t → since ≤ t
  new_late k t at = elim (cases_lt k count) [
    | inl low ↦ (let e : since + k * step ≡ t = some_same (since + k * step) t (sym (now_time later_spans k low) ∙ at) in omega (arith, e))
    | inr high ↦ (let l = later_late (k - count) t (sym (past_time later_spans k high) ∙ at) in omega (arith, l))
  ]

  -- the position at a time of the period in progress
  position_then : (i : ℕ) → i < count → position_at 0 then_spans (since + i * step) ≡ Some (old_count + i)
  position_then i inside =
      let z : 0 + (old_count + i) ≡ old_count + i = omega arith in
      (time_is c.origin 0 then_spans (old_count + i) (since + i * step) then_chained (new_time [] i ∙ now_time [] i inside)).1 ∙ ap Some z

  cell_at_then : (i : ℕ) → i < count → cell_then (since + i * step) ≡ Some (sample_then (old_count + i))
  cell_at_then i inside = ap (λ (l : List Span). option_map sample_then (position_at 0 l (since + i * step))) then_is ∙ ap (option_map sample_then) (position_then i inside)

  -- ---- cells that stay

  -- a cell stays as it was where it isn't unknown, at a time that isn't after the period
  pub stays : (time : ℕ) → time < since + period → cell_then time ≢ Some None → cell_then time ≡ cell_whole time
  stays time early known_then = cell_stays model flat number c h done_c longer port out start time early_origin at_position
    where
      early_origin : time < c.origin + time_of_periods (periods_of c)
      early_origin = let s = timely.since in let e = ends in omega (arith, early, s, e)
        where
          ends : time_of_periods (periods_of c) ≡ time_of_periods c.old + period
          ends = total c.old
            where
              total : (ps : List PeriodRecord) → time_of_periods (ps ++ c.now ∷ []) ≡ time_of_periods ps + period
              total [] = let a = sum_by-cons (λ (p : PeriodRecord). p.info.period) c.now [] in let z : time_of_periods [] ≡ 0 = refl in omega (arith, a, z)
              total (p ∷ ps) =
                  let a = sum_by-cons (λ (q : PeriodRecord). q.info.period) p (ps ++ c.now ∷ []) in
                  let d = sum_by-cons (λ (q : PeriodRecord). q.info.period) p ps in
                  let r = total ps in omega (arith, a, d, r)

      at_position : (j : ℕ) → position_at 0 (column_spans port start c.origin (periods_of c)) time ≡ Some j → j < samples_done start port c
      at_position j at = elim (cases_lt j (samples_done start port c)) [
        | inl low ↦ low
        | inr past ↦ absurd (known_then (ap (option_map sample_then) at ∙ ap (λ (p : Bool). Some (if p then sample_of start (periods_of c) port out (known (cluster_net model flat number c.begun) (run_in c) (firings (periods_of c))) j else None)) (le-ltb j (samples_done start port c) past)))
      ]

  -- before the period in progress each cell has its sample
  holds : HoldsFirst start port (periods_of c)
  holds = go (periods_of c) timely.whole
    where
      go : (ps : List PeriodRecord) → ((k : ℕ) (p : PeriodRecord) → slice_get ps k ≡ Some p → p.counts ≡ p.info.counts) → HoldsFirst start port ps
      go [] whole = tt
      go (p ∷ ps) whole =
          let e : outputs_in port p ≡ positions port p = ap (λ l. slice_index l port.«module» * rate_in port p) (whole 0 p refl) in
          let s = text.skipped in (omega (arith, s), omega (arith, e))

  pub early_known : (time : ℕ) → time < since → cell_then time ≢ Some None
  early_known time early is = go (position_at 0 (column_spans port start c.origin (periods_of c)) time) refl is
    where
      go : (o : Option ℕ) → position_at 0 (column_spans port start c.origin (periods_of c)) time ≡ o → option_map sample_then o ≡ Some None → ⊥
      go None at none = absurd cc
      go (Some j) at none =
          let t = there model flat number c start port out time j done_c holds (let s = timely.since in omega (arith, early, s)) at in
          let e : Some (Some t.value) ≡ Some None = ap Some (sym t.sample) ∙ none in absurd cc

  -- ---- the column as the snapshot says it

  module _ (row : TraceRow) (state : ColumnStateOf) (rows : ℕ) (valid : IsValidSamples rows x state) (ends : rows ≤ since + period)
      (known_then : (t : ℕ) → t < rows → cell_then t ≢ Some None)
      (samples_are : state.samples ≡ stamps_in cell_then rows (since + period - rows))
      (later_are : state.later ≡ flat_map (λ j. number_of_sample (sample_then j)) (range_with_len (count_of_spans (column_spans port start c.origin (periods_of c))) (samples_done start port c - count_of_spans (column_spans port start c.origin (periods_of c)))))
      (fits : (j : ℕ) (v : Raw) → sample_then j ≡ Some v → value_of_trace flat.tables row v.num ≡ v) where
    abbrev pub start_on : ColumnStart
    start_on = column_start_of flat.tables rows row state (Some x)

    abbrev skipped : ℕ
    skipped = positions_before rows x

    abbrev early : List SavedStamp
    early = stamps_before x.cluster.since state

    abbrev given : List SavedStamp
    given = stamps_from x.cluster.since state

    abbrev stamps : List Stamp
    stamps = map (stamp_of_trace flat.tables row) early

    abbrev pub cell_part : ℕ → Option (Option Raw)
    cell_part time = port_cell model flat number start_on port out time (Some g)

    abbrev sample_part : ℕ → Option Raw
    sample_part j = sample_at model flat number g start_on port out j

    -- ---- the positions that have rows already

    falls : (i j : ℕ) → i ≤ j → nat_lt (time_of_position x j) rows ≡ true → nat_lt (time_of_position x i) rows ≡ true
    falls i j low is =
        let l = ltb-true (time_of_position x j) rows is in
        let m : i * step_in port x.cluster.now ≤ j * step_in port x.cluster.now = mul-le-mul_right (step_in port x.cluster.now) low in
        lt-ltb (time_of_position x i) rows (omega (arith, l, m))

    front : IsFront (λ i. nat_lt (time_of_position x i) rows) falls (position_count x) skipped
    front = front_is (λ i. nat_lt (time_of_position x i) rows) falls (position_count x)

    within : skipped ≤ count
    within = let w = front.within in let s = count_same in omega (arith, w, s)

    has_row : (i : ℕ) → i < skipped → since + i * step < rows
    has_row i low = let l = ltb-true (time_of_position x i) rows (front.low i low) in let e = time_same i in omega (arith, l, e)

    has_none : (i : ℕ) → skipped ≤ i → i < count → rows ≤ since + i * step
    has_none i high inside = elim (cases_lt (since + i * step) rows) [
      | inl less ↦ absurd (
          let e = time_same i in let s = count_same in
          let no : true ≡ false = sym (lt-ltb (time_of_position x i) rows (omega (arith, less, e))) ∙ front.high i high (omega (arith, inside, s)) in cc)
      | inr more ↦ more
    ]

    skipped_known : skipped ≤ known_count x
    skipped_known = elim (cases_lt (known_count x) skipped) [
      | inr low ↦ low
      | inl high ↦ absurd (
          let w = within in
          let s = samples_then in
          let low = has_row (known_count x) high in
          known_then (since + known_count x * step) low (cell_at_then (known_count x) (omega (arith, high, w))
          ∙ ap (λ (p : Bool). Some (if p then sample_of start (periods_of c) port out (known (cluster_net model flat number c.begun) (run_in c) (firings (periods_of c))) (old_count + known_count x) else None)) (le-ltb (old_count + known_count x) (samples_done start port c) (omega (arith, s)))))
    ]

    -- ---- the spans of the part

    abbrev first_end : ℕ
    first_end = since + skipped * step

    abbrev part_spans : List Span
    part_spans = spans_to stamps first_end ++ span_after since step count skipped ∷ later_spans

    part_is : column_spans port start_on g.origin (periods_of g) ≡ part_spans
    part_is =
        (λ i. column_spans port start_on (origin_g i) (later.part i))
        ∙ ap (λ (n : PeriodInfo). spans_to stamps (since + skipped * (n.period / (slice_index n.counts port.«module» * port_rate n.table port)))
        ++ span_after since (n.period / (slice_index n.counts port.«module» * port_rate n.table port)) (slice_index n.counts port.«module» * port_rate n.table port) skipped ∷ spans_from port (since + n.period) later.later) resumed.rest.info

    early_at : (j : ℕ) (y : SavedStamp) → slice_get early j ≡ Some y → (y.time < since) × ((i : ℕ) × (slice_get state.samples i ≡ Some y))
    early_at j y at =
        let k = kept_there (λ (z : SavedStamp). nat_lt z.time x.cluster.since) state.samples j y at in
        let l = ltb-true y.time x.cluster.since k.2 in let s = since_is in (omega (arith, l, s), (k.0, k.1))

    sample_there : (i : ℕ) (y : SavedStamp) → slice_get state.samples i ≡ Some y → IsShown cell_then rows (since + period - rows) y
    sample_there i y at = shown_at cell_then rows (since + period - rows) i y (ap (λ (l : List SavedStamp). slice_get l i) (sym samples_are) ∙ at)

    stamp_early : (j t : ℕ) → j < length stamps → time_in_spans part_spans j ≡ Some t → (y : SavedStamp) × (slice_get early j ≡ Some y) × (y.time ≡ t)
    stamp_early j t inside at =
        let l = length-map early (stamp_of_trace flat.tables row) in
        let y = get_inside early j (omega (arith, l, inside)) in
        let s : slice_get stamps j ≡ Some (stamp_of_trace flat.tables row y.0) = slice_get-map (stamp_of_trace flat.tables row) early j ∙ ap (option_map (stamp_of_trace flat.tables row)) y.1 in
        let e : Some y.0.time ≡ Some t = sym (stamps_early first_end j stamps (span_after since step count skipped ∷ later_spans) inside ∙ ap (option_map (λ (z : Stamp). z.time)) s) ∙ at in
        (y.0, y.1, some_same y.0.time t e)

    part_rising : AreRising 0 stamps first_end
    part_rising = rising_below 0 stamps since first_end (omega arith)
        (subst (λ k. AreRising 0 stamps k) since_is
        (subst (λ l. AreRising 0 (map (stamp_of_trace flat.tables row) (filter (λ (y : SavedStamp). nat_lt y.time x.cluster.since) l)) x.cluster.since) (sym samples_are)
        (early_rise cell_then (stamp_of_trace flat.tables row) (λ y. refl) x.cluster.since rows (since + period - rows) 0 (omega arith) (omega arith))))

    part_chained : AreChained (first_time stamps first_end) part_spans
    unfolding AreChained
    part_chained = stamps_chain 0 first_end stamps (span_after since step count skipped ∷ later_spans) part_rising rest_chained
      where
        rest_chained : AreChained first_end (span_after since step count skipped ∷ later_spans)
        rest_chained =
            let d = add-mul skipped (count - skipped) step in
            let w = within in
            let n : skipped + (count - skipped) ≡ count = omega (arith, w) in
            let m = ap (λ k. k * step) n in
            let e = now_cut.1 in
            let z : since + period ≡ first_end + (count - skipped) * step = omega (arith, d, m, e) in
            (refl, now_cut.0, subst (λ k. AreChained k later_spans) z (spans_chained port (since + period) later.later later_cut))

    part_time : (k : ℕ) → time_in_spans part_spans (length stamps + k) ≡ time_in_spans whole_spans (old_count + skipped + k)
    part_time k =
        let z : old_count + skipped + k ≡ old_count + (skipped + k) = omega arith in
        stamps_late first_end k stamps (span_after since step count skipped ∷ later_spans)
        ∙ time_skipped since step count skipped later_spans k within
        ∙ sym (ap (time_in_spans whole_spans) z ∙ new_time later_spans (skipped + k))

    part_late : (k t : ℕ) → time_in_spans part_spans (length stamps + k) ≡ Some t → time_in_spans (now_span ∷ later_spans) (skipped + k) ≡ Some t
    part_late k t at = sym (stamps_late first_end k stamps (span_after since step count skipped ∷ later_spans) ∙ time_skipped since step count skipped later_spans k within) ∙ at

    -- ---- before the rows there is nothing

    pub none_early : (time : ℕ) → time < rows → cell_part time ≡ None
    none_early time low = ap (λ (l : List Span). option_map sample_part (position_at 0 l time)) part_is ∙ go (position_at 0 part_spans time) refl
      where
        none_at : (j : ℕ) → time_in_spans part_spans j ≡ Some time → ⊥
        none_at j at = elim (cases_lt j (length stamps)) [
          | inl front ↦ (
              let y = stamp_early j time front at in
              let e = (early_at j y.0 y.1).1 in
              let s = (sample_there e.0 y.0 e.1).low in
              let t = y.2 in omega (arith, s, t, low))
          | inr behind ↦ (
              let k : ℕ = j - length stamps in
              let z : j ≡ length stamps + k = omega (arith, behind) in
              let t = part_late k time (ap (time_in_spans part_spans) (sym z) ∙ at) in
              elim (cases_lt (skipped + k) count) [
                | inl inside ↦ (
                    let e : since + (skipped + k) * step ≡ time = some_same (since + (skipped + k) * step) time (sym (now_time later_spans (skipped + k) inside) ∙ t) in
                    let r = has_none (skipped + k) (omega arith) inside in omega (arith, e, r, low))
                | inr past ↦ (let l = later_late (skipped + k - count) time (sym (past_time later_spans (skipped + k) past) ∙ t) in omega (arith, l, ends, low))
              ])
        ]

        go : (o : Option ℕ) → position_at 0 part_spans time ≡ o → option_map sample_part o ≡ None
        go None at = refl
        go (Some j) at = (
            let p = position_is (first_time stamps first_end) 0 part_spans j time part_chained at in
            absurd (none_at p.0 p.2))

    -- ---- the samples of earlier periods

    held_on : length (held_by start_on) ≡ length stamps + length start_on.ahead
    held_on = held_long start_on

    stamp_sample : (j : ℕ) (y : SavedStamp) → slice_get early j ≡ Some y → sample_part j ≡ Some (value_of_trace flat.tables row y.num)
    unfolding held_by
    stamp_sample j y at =
        let i = slice_get_within early j y at in
        let l = length-map early (stamp_of_trace flat.tables row) in
        let hl = held_on in
        let v = length-map stamps (λ (s : Stamp). s.value) in
        ap (λ (p : Bool). if p then sample_of start_on (periods_of g) port out (known (cluster_net model flat number g.begun) (run_in g) (firings (periods_of g))) j else None) (lt-ltb j (samples_done start_on port g) (omega (arith, i, l, hl)))
        ∙ ap (λ (p : Bool). if p then slice_get (held_by start_on) j else port_output (periods_of g) port out (known (cluster_net model flat number g.begun) (run_in g) (firings (periods_of g))) (j - length (held_by start_on)))
        (lt-ltb j (length (held_by start_on)) (omega (arith, i, l, hl)))
        ∙ get_low (map (λ (s : Stamp). s.value) stamps) start_on.ahead j (omega (arith, i, l, v))
        ∙ slice_get-map (λ (s : Stamp). s.value) stamps j
        ∙ ap (option_map (λ (s : Stamp). s.value)) (slice_get-map (stamp_of_trace flat.tables row) early j ∙ ap (option_map (stamp_of_trace flat.tables row)) at)

    fits_cell : (time : ℕ) (v : Raw) → cell_then time ≡ Some (Some v) → value_of_trace flat.tables row v.num ≡ v
    fits_cell time v is = go (position_at 0 (column_spans port start c.origin (periods_of c)) time) is
      where
        go : (o : Option ℕ) → option_map sample_then o ≡ Some (Some v) → value_of_trace flat.tables row v.num ≡ v
        go None at = absurd cc
        go (Some j) at = fits j v (some_same (sample_then j) (Some v) at)

    early_same : (time : ℕ) → rows ≤ time → time < since → cell_part time ≡ cell_then time
    early_same time low before = ap (λ (l : List Span). option_map sample_part (position_at 0 l time)) part_is ∙ go (position_at 0 part_spans time) refl
      where
        go : (o : Option ℕ) → position_at 0 part_spans time ≡ o → option_map sample_part o ≡ cell_then time
        go (Some j) at = (
            let p = position_is (first_time stamps first_end) 0 part_spans j time part_chained at in
            let z : j ≡ p.0 = (let e = p.1 in omega (arith, e)) in
            elim (cases_lt p.0 (length stamps)) [
              | inl front ↦ (
                  let y = stamp_early p.0 time front p.2 in
                  let e = (early_at p.0 y.0 y.1).1 in
                  let s = sample_there e.0 y.0 e.1 in
                  let there_is : cell_then time ≡ Some (Some s.value) = ap cell_then (sym y.2) ∙ s.there in
                  ap (λ i. Some (sample_part i)) z ∙ ap Some (stamp_sample p.0 y.0 y.1 ∙ ap Some (ap (value_of_trace flat.tables row) s.num ∙ fits_cell time s.value there_is)) ∙ sym there_is)
              | inr behind ↦ absurd (
                  let k : ℕ = p.0 - length stamps in
                  let y : p.0 ≡ length stamps + k = omega (arith, behind) in
                  let t = part_late k time (ap (time_in_spans part_spans) (sym y) ∙ p.2) in
                  let l = new_late (skipped + k) time t in omega (arith, l, before))
            ])
        go None at = other (cell_then time) refl
          where
            other : (o : Option (Option Raw)) → cell_then time ≡ o → None ≡ o
            other None is = refl
            other (Some None) is = absurd (early_known time before is)
            other (Some (Some v)) is = absurd (
                let i = has_shown cell_then rows (since + period - rows) time v low (omega (arith, low, before)) is in
                let s = since_is in
                let k = there_kept (λ (z : SavedStamp). nat_lt z.time x.cluster.since) state.samples i.0 (stamp_for time v) (ap (λ (l : List SavedStamp). slice_get l i.0) samples_are ∙ i.1) (lt-ltb time x.cluster.since (omega (arith, before, s))) in
                let w = slice_get_within early k.0 (stamp_for time v) k.1 in
                let l = length-map early (stamp_of_trace flat.tables row) in
                let t : time_in_spans part_spans k.0 ≡ Some time = stamps_early first_end k.0 stamps (span_after since step count skipped ∷ later_spans) (omega (arith, w, l))
                ∙ ap (option_map (λ (z : Stamp). z.time)) (slice_get-map (stamp_of_trace flat.tables row) early k.0 ∙ ap (option_map (stamp_of_trace flat.tables row)) k.1) in
                none_some (0 + k.0) (sym at ∙ (time_is (first_time stamps first_end) 0 part_spans k.0 time part_chained t).1))

    -- ---- the samples from the period in progress on

    given_long : length given ≡ min (known_count x) count - skipped
    given_long = sym (length-map given (λ (s : SavedStamp). s.time)) ∙ ap length valid.known ∙ length-map-range_with_len (time_of_position x) skipped (min (known_count x) (position_count x) - skipped)
        ∙ ap (λ n. min (known_count x) n - skipped) count_same

    later_long : length state.later ≡ known_count x - count
    later_long = valid.later ∙ ap (λ n. known_count x - n) count_same

    ahead_long : length start_on.ahead ≡ known_count x - skipped
    ahead_long =
        let a = length-map (numbers_ahead x.cluster.since state) (value_of_trace flat.tables row) in
        let d = length-append (map (λ (s : SavedStamp). s.num) given) state.later in
        let e = length-map given (λ (s : SavedStamp). s.num) in
        let i = given_long in let l = later_long in let s = skipped_known in let w = within in omega (arith, a, d, e, i, l, s, w)

    -- number k of those that are held is a sample of the whole
    number_held : (k : ℕ) → skipped + k < known_count x → (v : Raw) × (sample_then (old_count + skipped + k) ≡ Some v) × (slice_get (numbers_ahead x.cluster.since state) k ≡ Some v.num)
    number_held k low = elim (cases_lt (skipped + k) count) [
      | inl inside ↦ (
          let i = given_long in
          let y = get_inside given k (omega (arith, i, low, inside)) in
          let t : Some y.0.time ≡ Some (time_of_position x (skipped + k)) =
          sym (slice_get-map (λ (s : SavedStamp). s.time) given k ∙ ap (option_map (λ (s : SavedStamp). s.time)) y.1)
          ∙ ap (λ (l : List ℕ). slice_get l k) valid.known
          ∙ get_made_at (time_of_position x) skipped (min (known_count x) (position_count x) - skipped) k (let s = count_same in omega (arith, s, low, inside)) in
          let time_is_it : y.0.time ≡ since + (skipped + k) * step = some_same y.0.time (time_of_position x (skipped + k)) t ∙ time_same (skipped + k) in
          let m = kept_there _ state.samples k y.0 y.1 in
          let s = sample_there m.0 y.0 m.1 in
          let z : old_count + skipped + k ≡ old_count + (skipped + k) = omega arith in
          let e : Some (sample_then (old_count + (skipped + k))) ≡ Some (Some s.value) = sym (cell_at_then (skipped + k) inside) ∙ ap cell_then (sym time_is_it) ∙ s.there in (
            s.value,
            ap sample_then z ∙ some_same (sample_then (old_count + (skipped + k))) (Some s.value) e,
            get_low (map (λ (q : SavedStamp). q.num) given) state.later k (let l = length-map given (λ (q : SavedStamp). q.num) in omega (arith, l, i, low, inside))
                ∙ slice_get-map (λ (q : SavedStamp). q.num) given k ∙ ap (option_map (λ (q : SavedStamp). q.num)) y.1 ∙ ap Some s.num,
          ))
      | inr past ↦ (
          let i = given_long in
          let l = length-map given (λ (q : SavedStamp). q.num) in
          let w = within in
          let j : ℕ = skipped + k - count in
          let many : samples_done start port c - count_of_spans (column_spans port start c.origin (periods_of c)) ≡ known_count x - count = (let n = total in let s = samples_then in omega (arith, n, s)) in
          let e : length state.later ≡ length (flat_map (λ q. number_of_sample (sample_then q)) (range_with_len (count_of_spans (column_spans port start c.origin (periods_of c))) (samples_done start port c - count_of_spans (column_spans port start c.origin (periods_of c))))) = ap length later_are in
          let n = later_long in
          let r = numbers_are sample_then (count_of_spans (column_spans port start c.origin (periods_of c))) (samples_done start port c - count_of_spans (column_spans port start c.origin (periods_of c))) j (omega (arith, many, e, n)) (omega (arith, many, low, past)) in
          let z : old_count + skipped + k ≡ count_of_spans (column_spans port start c.origin (periods_of c)) + j = (let q = total in omega (arith, q, past)) in
          let y : k - length (map (λ (q : SavedStamp). q.num) given) ≡ j = omega (arith, l, i, low, past, w) in (
            r.0,
            ap sample_then z ∙ r.1,
            get_high (map (λ (q : SavedStamp). q.num) given) state.later k (omega (arith, l, i, low, past, w)) ∙ ap (slice_get state.later) y ∙ ap (λ (q : List ℤ). slice_get q j) later_are ∙ r.2,
          ))
    ]
      where
        total : count_of_spans (column_spans port start c.origin (periods_of c)) ≡ old_count + count
        total = ap count_of_spans then_is ∙ sum
          where
            sum : count_of_spans then_spans ≡ old_count + count
            sum = ap count_of_spans (sym (spans_of [])) ∙ spans_count port c.origin (periods_of c) ∙ more c.old
              where
                more : (ps : List PeriodRecord) → sum_by (positions port) (ps ++ c.now ∷ []) ≡ sum_by (positions port) ps + count
                more [] = let a = sum_by-cons (positions port) c.now [] in let q : sum_by (positions port) [] ≡ 0 = refl in omega (arith, a, q)
                more (p ∷ ps) = let a = sum_by-cons (positions port) p (ps ++ c.now ∷ []) in let d = sum_by-cons (positions port) p ps in let r = more ps in omega (arith, a, d, r)

    abbrev past_part : Past (List ℤ) Raw
    past_part = known (cluster_net model flat number g.begun) (run_in g) (firings (periods_of g))

    abbrev past_whole : Past (List ℤ) Raw
    past_whole = known (cluster_net model flat number h.begun) (run_in h) (firings (periods_of h))

    -- one that the start holds
    sample_held : (k : ℕ) → skipped + k < known_count x → sample_part (length stamps + k) ≡ sample_whole (old_count + skipped + k)
    unfolding held_by
    sample_held k low =
        let hl = held_on in
        let al = ahead_long in
        let v = length-map stamps (λ (s : Stamp). s.value) in
        let n = number_held k low in
        let z : length stamps + k - length (map (λ (s : Stamp). s.value) stamps) ≡ k = omega (arith, v) in
        let s = samples_then in
        let whole : sample_whole (old_count + skipped + k) ≡ Some n.0 = sym (sample_stays model flat number c h done_c longer port out start (old_count + skipped + k) (omega (arith, s, low))) ∙ n.1 in
        ap (λ (p : Bool). if p then sample_of start_on (periods_of g) port out past_part (length stamps + k) else None) (lt-ltb (length stamps + k) (samples_done start_on port g) (omega (arith, hl, al, low)))
        ∙ ap (λ (p : Bool). if p then slice_get (held_by start_on) (length stamps + k) else port_output (periods_of g) port out past_part (length stamps + k - length (held_by start_on)))
        (lt-ltb (length stamps + k) (length (held_by start_on)) (omega (arith, hl, al, low)))
        ∙ get_high (map (λ (q : Stamp). q.value) stamps) start_on.ahead (length stamps + k) (omega (arith, v))
        ∙ ap (slice_get start_on.ahead) z
        ∙ slice_get-map (value_of_trace flat.tables row) (numbers_ahead x.cluster.since state) k
        ∙ ap (option_map (value_of_trace flat.tables row)) n.2
        ∙ ap Some (fits (old_count + skipped + k) n.0 n.1)
        ∙ sym whole

    -- or one that was made since
    sample_made : (k : ℕ) → known_count x ≤ skipped + k → sample_part (length stamps + k) ≡ sample_whole (old_count + skipped + k)
    sample_made k high =
        let hl = held_on in
        let al = ahead_long in
        let sk = skipped_known in
        let f = first_held in
        let s = samples_then in
        let o : ℕ = skipped + k - known_count x in
        let all = outputs_are by_table goes_on enough model flat is_flat limits sinks number c b h g resumed follows sound_c sound_h sound_g port out in
        let y : length stamps + k - length (held_by start_on) ≡ o = omega (arith, hl, al, sk, high) in
        let z : old_count + skipped + k - length (held_by start) ≡ outputs_done port c + o = omega (arith, s, high) in
        let out_part : sample_of start_on (periods_of g) port out past_part (length stamps + k) ≡ port_output (periods_of g) port out past_part o =
        ap (λ (p : Bool). if p then slice_get (held_by start_on) (length stamps + k) else port_output (periods_of g) port out past_part (length stamps + k - length (held_by start_on)))
        (le-ltb (length stamps + k) (length (held_by start_on)) (omega (arith, hl, al, sk, high)))
        ∙ ap (port_output (periods_of g) port out past_part) y in
        let out_whole : sample_of start (periods_of h) port out past_whole (old_count + skipped + k) ≡ port_output (periods_of h) port out past_whole (outputs_done port c + o) =
        ap (λ (p : Bool). if p then slice_get (held_by start) (old_count + skipped + k) else port_output (periods_of h) port out past_whole (old_count + skipped + k - length (held_by start)))
        (le-ltb (old_count + skipped + k) (length (held_by start)) (omega (arith, s, high)))
        ∙ ap (port_output (periods_of h) port out past_whole) z in
        let same = output_same by_table goes_on enough model flat is_flat limits sinks number c b h g resumed follows sound_c sound_h sound_g port out o in
        elim (cases_lt o (outputs_done port g)) [
          | inl there_is ↦ (
              ap (λ (p : Bool). if p then sample_of start_on (periods_of g) port out past_part (length stamps + k) else None) (lt-ltb (length stamps + k) (samples_done start_on port g) (omega (arith, hl, al, sk, high, there_is)))
              ∙ out_part ∙ same ∙ sym out_whole
              ∙ sym (ap (λ (p : Bool). if p then sample_of start (periods_of h) port out past_whole (old_count + skipped + k) else None) (lt-ltb (old_count + skipped + k) (samples_done start port h) (omega (arith, s, all, high, there_is)))))
          | inr none ↦ (
              ap (λ (p : Bool). if p then sample_of start_on (periods_of g) port out past_part (length stamps + k) else None) (le-ltb (length stamps + k) (samples_done start_on port g) (omega (arith, hl, al, sk, high, none)))
              ∙ sym (ap (λ (p : Bool). if p then sample_of start (periods_of h) port out past_whole (old_count + skipped + k) else None) (le-ltb (old_count + skipped + k) (samples_done start port h) (omega (arith, s, all, high, none)))))
        ]

    sample_meets : (k : ℕ) → sample_part (length stamps + k) ≡ sample_whole (old_count + skipped + k)
    sample_meets k = elim (cases_lt (skipped + k) (known_count x)) [ inl low ↦ sample_held k low | inr high ↦ sample_made k high ]

    late_same : (time : ℕ) → rows ≤ time → since ≤ time → cell_part time ≡ cell_whole time
    late_same time low after =
        ap (λ (l : List Span). option_map sample_part (position_at 0 l time)) part_is
        ∙ cells_meet c.origin (first_time stamps first_end) whole_spans part_spans whole_chained part_chained (old_count + skipped) (length stamps) time part_time whole_early part_early sample_whole sample_part sample_meets time (omega arith)
        ∙ sym (ap (λ (l : List Span). option_map sample_whole (position_at 0 l time)) whole_is)
      where
        whole_early : (j t : ℕ) → j < old_count + skipped → time_in_spans whole_spans j ≡ Some t → t < time
        whole_early j t less at = elim (cases_lt j old_count) [
          | inl old ↦ (let e = old_early (now_span ∷ later_spans) j t old at in omega (arith, e, after))
          | inr new ↦ (
              let i : ℕ = j - old_count in
              let z : j ≡ old_count + i = omega (arith, new) in
              let w = within in
              let e : since + i * step ≡ t = some_same (since + i * step) t (sym (new_time later_spans i ∙ now_time later_spans i (omega (arith, less, w, new))) ∙ ap (time_in_spans whole_spans) (sym z) ∙ at) in
              let r = has_row i (omega (arith, less, new)) in omega (arith, e, r, low))
        ]

        part_early : (j t : ℕ) → j < length stamps → time_in_spans part_spans j ≡ Some t → t < time
        part_early j t less at =
            let y = stamp_early j t less at in
            let e = (early_at j y.0 y.1).0 in let s = y.2 in omega (arith, e, s, after)

    -- from there on the cells are those of the whole
    pub same_late : (time : ℕ) → rows ≤ time → cell_part time ≡ cell_whole time
    same_late time low = elim (cases_lt time since) [
      | inl before ↦ early_same time low before ∙ stays time (omega (arith, before)) (early_known time before)
      | inr after ↦ late_same time low after
    ]
