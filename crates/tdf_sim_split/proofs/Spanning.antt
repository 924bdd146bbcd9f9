-- The positions of a column in the period in progress.
use Rattle.std.proofs.Common.{◌≡◌, ◌∙◌, ◌<◌, ◌≤◌, ◌+◌, ◌-◌, ◌*◌, ◌/◌, ◌++◌, ℕ, zero, suc, false, if◌then◌else◌, nat_lt, Option, Some, None, option_map, List, [], ◌∷◌, length, slice_get, slice_index, refl, ap, sym, subst, inl, inr, arith}
use Rattle.std.proofs.Math.Nat.{add-mul, mul-le-mul_right}
use Rattle.std.proofs.lemmas.Bool.{cases_lt, le-ltb, lt-ltb}
use Rattle.std.proofs.lemmas.List.Sums.{sum_by-cons}
use Rattle.std.proofs.lemmas.Option.{get_or_from_slice_get, slice_get_within}
use Rattle.std.specs.List.{sum_by}
use Rattle.std.specs.Prelude.{All}
use Rattle.tdf_bind.specs.declared.model.Flat.{Flat}
use Rattle.tdf_bind_connections.specs.declared.modules.PortRow.{PortRow}
use Rattle.tdf_bind_invariants.specs.Limits.{AreWithinLimits}
use Rattle.tdf_schedule.specs.Plan.{done}
use Rattle.tdf_schedule.specs.declared.entry.Entry.{Entry}
use Rattle.tdf_sim_history.proofs.Api.{AreRising, column_push, column_total, first_time, held_long, stamps_chain, stamps_early, stamps_total, whole_sum}
use Rattle.tdf_sim_history.specs.Cells.{column_spans, spans_from}
use Rattle.tdf_sim_history.specs.Columns.{ColumnStart, Stamp, held_by, span_after, spans_to}
use Rattle.tdf_sim_split.proofs.Sound.{done_rises}
use Rattle.tdf_sim_split.specs.Columns.{IsSampleStart, StandRising, first_or}
use Rattle.tdf_streams.proofs.Api.{none_some, some_same, steps_whole}
use Rattle.tdf_streams.specs.Laws.{IsClusterPort}
use Rattle.tdf_streams.specs.Periods.{IsTimedRecord, IsWholeRecord, PeriodRecord, done_before}
use Rattle.tdf_streams.specs.Signals.{outputs_in, positions, rate_in, step_in, time_of_periods}
use Rattle.tdf_trace_rows.proofs.Api.{position_is, time_is}
use Rattle.tdf_trace_rows.specs.Positions.{AreChained, Span, count_of_spans, position_at, span_end, span_of, time_in_spans}

-- ---- spans

-- the positions of spans after others
pub times_late : (xs ys : List Span) (j : ℕ) → time_in_spans (xs ++ ys) (count_of_spans xs + j) ≡ time_in_spans ys j
unfolding time_in_spans count_of_spans
times_late [] ys j = let z : 0 + j ≡ j = omega arith in ap (time_in_spans ys) z
times_late (p ∷ ps) ys j =
    let b : nat_lt (p.count + count_of_spans ps + j) p.count ≡ false = le-ltb (p.count + count_of_spans ps + j) p.count (omega arith) in
    let z : p.count + count_of_spans ps + j - p.count ≡ count_of_spans ps + j = omega arith in
    rw (b, z) (times_late ps ys j)

-- those of one span
pub one_time : (p : Span) (k : ℕ) → k < p.count → time_in_spans (p ∷ []) k ≡ Some (p.start + k * p.step)
unfolding time_in_spans
one_time p k low = rw (lt-ltb k p.count low) refl

pub of_one : (p : Span) (k t : ℕ) → time_in_spans (p ∷ []) k ≡ Some t → (k < p.count) × (t ≡ p.start + k * p.step)
unfolding time_in_spans
of_one p k t at = elim (cases_lt k p.count) [
  | inl low ↦ (low, sym (some_same (p.start + k * p.step) t (sym (ap (λ b. if b then Some (p.start + k * p.step) else None) (lt-ltb k p.count low)) ∙ at)))
  | inr past ↦ none_some t (sym (ap (λ b. if b then Some (p.start + k * p.step) else None) (le-ltb k p.count past)) ∙ at)
]

chain_low : (b : ℕ) (xs : List Span) (y : Span) → AreChained b (xs ++ y ∷ []) → b ≤ y.start
unfolding AreChained
chain_low b [] y chained = let e = chained.0 in omega (arith, e)
chain_low b (p ∷ ps) y chained = let r = chain_low (span_end p) ps y chained.2 in let e = chained.0 in omega (arith, e, r)

-- those of the spans before the last lie before its start
pub chain_before : (b : ℕ) (xs : List Span) (y : Span) (j t : ℕ) → AreChained b (xs ++ y ∷ []) → j < count_of_spans xs → time_in_spans (xs ++ y ∷ []) j ≡ Some t → t < y.start
unfolding AreChained time_in_spans count_of_spans
chain_before b [] y j t chained low at = absurd (omega (arith, low))
chain_before b (p ∷ ps) y j t chained low at = elim (cases_lt j p.count) [
  | inl here ↦ (
      let e : p.start + j * p.step ≡ t = some_same (p.start + j * p.step) t (sym (ap (λ c. if c then Some (p.start + j * p.step) else time_in_spans (ps ++ y ∷ []) (j - p.count)) (lt-ltb j p.count here)) ∙ at) in
      let m : (j + 1) * p.step ≤ p.count * p.step = mul-le-mul_right p.step (omega (arith, here)) in
      let a = add-mul j 1 p.step in
      let r = chain_low (span_end p) ps y chained.2 in
      let s = chained.1 in
      omega (arith, e, m, a, r, s))
  | inr later ↦ chain_before (span_end p) ps y (j - p.count) t chained.2 (omega (arith, low, later))
      (sym (ap (λ c. if c then Some (p.start + j * p.step) else time_in_spans (ps ++ y ∷ []) (j - p.count)) (le-ltb j p.count later)) ∙ at)
]

-- ---- the period in progress

-- when it began, the time from one position to the next, how many positions it has, and how many of
-- the samples from its first position on are known
pub record PeriodNumbers : Type 0 where
  pub since : ℕ
  pub step : ℕ
  pub count : ℕ
  pub known : ℕ

abbrev pub time_in : PeriodNumbers → ℕ → ℕ
time_in q i = q.since + i * q.step

-- the last of some spans is that of the period, but for positions that are skipped; so many samples are there
pub record InPeriod (rows : ℕ) (spans : List Span) (done : ℕ) (q : PeriodNumbers) : Type 0 where
  pub before : List Span
  pub skipped : ℕ
  pub is : spans ≡ before ++ span_of (time_in q skipped) q.step (q.count - skipped) ∷ []
  pub within : skipped ≤ q.count
  pub known : skipped ≤ q.known
  pub done_is : done + skipped ≡ count_of_spans before + q.known
  pub from : ℕ
  pub chained : AreChained from spans
  pub early : (j t : ℕ) → j < count_of_spans before → time_in_spans spans j ≡ Some t → t < q.since
  pub step : 0 < q.step
  pub some : 0 < q.count
  pub shown : rows ≤ time_in q skipped
  pub skips : (i : ℕ) → i < skipped → time_in q i < rows
  pub starts : rows ≡ 0 → time_in_spans spans 0 ≡ Some 0

-- a position of the period
pub record IsSpot (q : PeriodNumbers) (base skipped t j : ℕ) : Type 0 where
  pub i : ℕ
  pub low : skipped ≤ i
  pub high : i < q.count
  pub time_is : t ≡ time_in q i
  pub number_is : j + skipped ≡ base + i

module _ (rows : ℕ) (spans : List Span) (total : ℕ) (q : PeriodNumbers) (d : InPeriod rows spans total q) where
  abbrev base : ℕ
  base = count_of_spans d.before

  abbrev last : Span
  last = span_of (time_in q d.skipped) q.step (q.count - d.skipped)

  last_time : (i : ℕ) → d.skipped ≤ i → time_in q d.skipped + (i - d.skipped) * q.step ≡ time_in q i
  last_time i low =
      let z : d.skipped + (i - d.skipped) ≡ i = omega (arith, low) in
      let a = add-mul d.skipped (i - d.skipped) q.step in
      let e = ap (λ k. k * q.step) z in omega (arith, a, e)

  -- position i of it
  pub place_of : (i : ℕ) → d.skipped ≤ i → i < q.count → position_at 0 spans (time_in q i) ≡ Some (base + (i - d.skipped))
  place_of i low high =
      let z : 0 + (base + (i - d.skipped)) ≡ base + (i - d.skipped) = omega arith in
      (time_is d.from 0 spans (base + (i - d.skipped)) (time_in q i) d.chained
      (ap (λ l. time_in_spans l (base + (i - d.skipped))) d.is ∙ times_late d.before (last ∷ []) (i - d.skipped) ∙ one_time last (i - d.skipped) (omega (arith, low, high)) ∙ ap Some (last_time i low))).1
      ∙ ap Some z

  -- the time of a position
  pub time_at : (t j : ℕ) → position_at 0 spans t ≡ Some j → time_in_spans spans j ≡ Some t
  time_at t j at = let p = position_is d.from 0 spans j t d.chained at in let e : p.0 ≡ j = (let n = p.1 in omega (arith, n)) in subst (λ k. time_in_spans spans k ≡ Some t) e p.2

  pub spot_of : (t j : ℕ) → position_at 0 spans t ≡ Some j → base ≤ j → IsSpot q base d.skipped t j
  spot_of t j at late =
      let z : base + (j - base) ≡ j = omega (arith, late) in
      let o = of_one last (j - base) t (sym (times_late d.before (last ∷ []) (j - base)) ∙ sym (ap (λ l. time_in_spans l (base + (j - base))) d.is) ∙ ap (time_in_spans spans) z ∙ time_at t j at) in
      let l = o.0 in
      let e : d.skipped + (j - base) - d.skipped ≡ j - base = omega arith in
      record {
        i = d.skipped + (j - base);
        low = omega arith;
        high = omega (arith, l);
        time_is = o.1 ∙ ap (λ k. time_in q d.skipped + k * q.step) (sym e) ∙ last_time (d.skipped + (j - base)) (omega arith);
        number_is = omega (arith, late);
      }

  -- a position at a time from its start on is one of it
  pub late_spot : (t j : ℕ) → q.since ≤ t → position_at 0 spans t ≡ Some j → IsSpot q base d.skipped t j
  late_spot t j late at = elim (cases_lt j base) [
    | inl low ↦ absurd (let e = d.early j t low (time_at t j at) in omega (arith, e, late))
    | inr past ↦ spot_of t j at past
  ]

-- ---- that of a column

-- both views of rising samples
pub are_rising : (from end : ℕ) (xs : List Stamp) → StandRising from xs end → AreRising from xs end
unfolding AreRising
are_rising from end [] rising = rising
are_rising from end (x ∷ xs) rising = (rising.0, are_rising (x.time + 1) end xs rising.1)

rising_end : (from end : ℕ) (xs : List Stamp) → StandRising from xs end → from ≤ end
rising_end from end [] rising = rising
rising_end from end (x ∷ xs) rising = let r = rising_end (x.time + 1) end xs rising.1 in let l = rising.0 in omega (arith, l, r)

pub all_at : {A : Type 0} (P : A → Type 0) (xs : List A) (i : ℕ) (x : A) → All P xs → slice_get xs i ≡ Some x → P x
all_at P xs i x all at = subst P (get_or_from_slice_get xs i x x at) (all i x (slice_get_within xs i x at))

all_tail : {A : Type 0} (P : A → Type 0) (x : A) (xs : List A) → All P (x ∷ xs) → All P xs
all_tail P x xs all j d below = all (suc j) d (omega (arith, below))

module _ (flat : Flat) (limits : AreWithinLimits flat) (number cluster : ℕ) (port : PortRow) (of : IsClusterPort flat cluster number port) where
  pub cut : (p : PeriodRecord) → IsTimedRecord flat cluster p → (0 < step_in port p) × (positions port p * step_in port p ≡ p.info.period)
  cut p timed = steps_whole flat cluster number port p limits of timed

  pub positions_some : (p : PeriodRecord) → IsTimedRecord flat cluster p → 0 < positions port p
  positions_some p timed = go (positions port p) refl
    where
      go : (k : ℕ) → k ≡ positions port p → 0 < positions port p
      go zero none = absurd (let s = cut p timed in let w : 0 < p.info.period / 0 = subst (λ k. 0 < p.info.period / k) (sym none) s.0 in omega (arith, w))
      go (suc k) is = omega (arith, is)

  periods_chain : (time : ℕ) (ps : List PeriodRecord) → All (IsWholeRecord flat cluster) ps → AreChained time (spans_from port time ps)
  unfolding AreChained
  periods_chain time [] whole = tt
  periods_chain time (p ∷ ps) whole =
      let timed = (all_at (IsWholeRecord flat cluster) (p ∷ ps) 0 p whole refl).is.timed in
      let c = cut p timed in
      (refl, c.0, subst (λ e. AreChained e (spans_from port (time + p.info.period) ps)) (ap (λ k. time + k) (sym c.1)) (periods_chain (time + p.info.period) ps (all_tail (IsWholeRecord flat cluster) p ps whole)))

  module _ (rows : ℕ) (s : ColumnStart) (origin : ℕ) (p : PeriodRecord) (timed : IsTimedRecord flat cluster p) (begins : IsSampleStart rows s port origin p) where
    abbrev end : ℕ
    end = origin + s.skipped * step_in port p

    after_end : span_end (span_after origin (step_in port p) (positions port p) s.skipped) ≡ origin + p.info.period
    after_end =
        let z : s.skipped + (positions port p - s.skipped) ≡ positions port p = (let w = begins.within in omega (arith, w)) in
        let a = add-mul s.skipped (positions port p - s.skipped) (step_in port p) in
        let e = ap (λ k. k * step_in port p) z in
        let c = (cut p timed).1 in omega (arith, a, e, c)

    column_chain : (ps : List PeriodRecord) → All (IsWholeRecord flat cluster) ps → AreChained (first_time s.stamps end) (column_spans port s origin (p ∷ ps))
    unfolding AreChained
    column_chain ps whole = stamps_chain rows end s.stamps (span_after origin (step_in port p) (positions port p) s.skipped ∷ spans_from port (origin + p.info.period) ps) (are_rising rows end s.stamps begins.rising)
        (refl, (cut p timed).0, subst (λ e. AreChained e (spans_from port (origin + p.info.period) ps)) (sym after_end) (periods_chain (origin + p.info.period) ps whole))

    -- where rows begin at the time 0, so does the column
    column_starts : (ps : List PeriodRecord) → rows ≡ 0 → time_in_spans (column_spans port s origin (p ∷ ps)) 0 ≡ Some 0
    unfolding spans_to time_in_spans
    column_starts ps none = go s.stamps refl (begins.first none)
      where
        rest : List Span
        rest = span_after origin (step_in port p) (positions port p) s.skipped ∷ spans_from port (origin + p.info.period) ps

        none_skipped : s.skipped ≡ 0
        none_skipped = elim (cases_lt 0 s.skipped) [
          | inl some ↦ absurd (let l = begins.skips 0 some in omega (arith, l, none))
          | inr past ↦ omega (arith, past)
        ]

        go : (xs : List Stamp) → s.stamps ≡ xs → first_or xs origin ≡ 0 → time_in_spans (column_spans port s origin (p ∷ ps)) 0 ≡ Some 0
        go [] at first =
            let z = none_skipped in
            let c = positions_some p timed in
            let e : end + 0 * step_in port p ≡ 0 = (let a = ap (λ k. k * step_in port p) z in let b : 0 * step_in port p ≡ 0 = omega arith in omega (arith, a, b, first)) in
            ap (λ (l : List Stamp). time_in_spans (spans_to l end ++ rest) 0) at
            ∙ ap (λ b. if b then Some (end + 0 * step_in port p) else time_in_spans (spans_from port (origin + p.info.period) ps) (0 - (positions port p - s.skipped))) (lt-ltb 0 (positions port p - s.skipped) (omega (arith, z, c)))
            ∙ ap Some e
        go (x ∷ xs) at first =
            stamps_early end 0 s.stamps rest (let l = ap (λ (l : List Stamp). length l) at in omega (arith, l))
            ∙ ap (λ (l : List Stamp). option_map (λ (y : Stamp). y.time) (slice_get l 0)) at ∙ ap Some first

    module _ (entries : List Entry) (from place : ℕ) (up : from ≤ place) where
      abbrev m : ℕ
      m = port.«module»

      abbrev acts : ℕ
      acts = done entries place m - done entries from m

      -- in the first period
      pub here : (counts : slice_index p.counts m + done entries from m ≡ done entries (length entries) m) (whole : slice_index p.info.counts m ≡ done entries (length entries) m)
          → InPeriod rows (column_spans port s origin (p ∷ [])) (length (held_by s) + (sum_by (outputs_in port) [] + acts * rate_in port p))
          (record { since = origin; step = step_in port p; count = positions port p; known = port.delay + done entries place m * rate_in port p })
      here counts whole = record {
        before = spans_to s.stamps end;
        skipped = s.skipped;
        is = refl;
        within = begins.within;
        known = (let h = held in let t = more in omega (arith, h, t));
        done_is = (let h = held in let t = more in let l = held_long s in let n = stamps_total s.stamps end in let z : sum_by (outputs_in port) [] ≡ 0 = refl in omega (arith, h, t, l, n, z));
        from = first_time s.stamps end;
        chained = column_chain [] (λ j d below. absurd (omega (arith, below)));
        early = λ j t low at. early_stamp j t (let n = stamps_total s.stamps end in omega (arith, low, n)) at;
        step = (cut p timed).0;
        some = positions_some p timed;
        shown = rising_end rows end s.stamps begins.rising;
        skips = begins.skips;
        starts = column_starts [];
      }
        where
          -- what was done before the start
          held : s.skipped + length s.ahead ≡ port.delay + done entries from m * rate_in port p
          held = begins.held ∙ ap (λ k. port.delay + k * rate_in port p) (let e : done_before p m ≡ done entries from m = omega (arith, counts, whole) in e)

          more : done entries from m * rate_in port p + acts * rate_in port p ≡ done entries place m * rate_in port p
          more =
              let r = done_rises entries m from place up in
              sym (add-mul (done entries from m) acts (rate_in port p)) ∙ ap (λ k. k * rate_in port p) (let e : done entries from m + acts ≡ done entries place m = omega (arith, r) in e)

          early_stamp : (j t : ℕ) → j < length s.stamps → time_in_spans (column_spans port s origin (p ∷ [])) j ≡ Some t → t < origin
          early_stamp j t low at = found (slice_get s.stamps j) refl (sym (stamps_early end j s.stamps (span_after origin (step_in port p) (positions port p) s.skipped ∷ []) low) ∙ at)
            where
              found : (o : Option Stamp) → slice_get s.stamps j ≡ o → option_map (λ (x : Stamp). x.time) o ≡ Some t → t < origin
              found None there is = none_some t is
              found (Some x) there is = let e : x.time ≡ t = some_same x.time t is in let l : x.time < origin = all_at (λ (y : Stamp). y.time < origin) s.stamps j x begins.early there in omega (arith, e, l)

      -- in a later one
      pub later : (ps : List PeriodRecord) (now : PeriodRecord) (since : ℕ) → All (IsWholeRecord flat cluster) (ps ++ now ∷ []) → since ≡ origin + time_of_periods (p ∷ ps)
          → slice_index now.counts m + done entries from m ≡ done entries (length entries) m → slice_index now.info.counts m ≡ done entries (length entries) m
          → InPeriod rows (column_spans port s origin (p ∷ (ps ++ now ∷ []))) (length (held_by s) + (sum_by (outputs_in port) (p ∷ ps) + acts * rate_in port now))
          (record { since = since; step = step_in port now; count = positions port now; known = port.delay + done entries place m * rate_in port now })
      later ps now since whole timed_is counts full = record {
        before = column_spans port s origin (p ∷ ps);
        skipped = 0;
        is = column_push port s origin (p ∷ ps) now (omega arith) ∙ (λ i. column_spans port s origin (p ∷ ps) ++ span_of (start_is i) (step_in port now) (count_is i) ∷ []);
        within = omega arith;
        known = omega arith;
        done_is = total;
        from = first_time s.stamps end;
        chained = chain;
        early = λ j t low at. (
            let e = chain_before (first_time s.stamps end) (column_spans port s origin (p ∷ ps)) (span_of (origin + time_of_periods (p ∷ ps)) (step_in port now) (positions port now)) j t
            (subst (AreChained (first_time s.stamps end)) (column_push port s origin (p ∷ ps) now (omega arith)) chain) low
            (sym (ap (λ l. time_in_spans l j) (column_push port s origin (p ∷ ps) now (omega arith))) ∙ at) in omega (arith, e, timed_is));
        step = (cut now now_whole.is.timed).0;
        some = positions_some now now_whole.is.timed;
        shown = (
            let r = rising_end rows end s.stamps begins.rising in
            let b = mul-le-mul_right (step_in port p) begins.within in
            let c = (cut p timed).1 in
            let t = sum_by-cons (λ (x : PeriodRecord). x.info.period) p ps in
            let z : 0 * step_in port now ≡ 0 = omega arith in
            omega (arith, r, b, c, t, z, timed_is));
        skips = λ i low. absurd (omega (arith, low));
        starts = column_starts (ps ++ now ∷ []);
      }
        where
          now_at : (l : List PeriodRecord) → slice_get (l ++ now ∷ []) (length l) ≡ Some now
          now_at [] = refl
          now_at (x ∷ l) = now_at l

          now_whole : IsWholeRecord flat cluster now
          now_whole = all_at (IsWholeRecord flat cluster) (ps ++ now ∷ []) (length ps) now whole (now_at ps)

          chain : AreChained (first_time s.stamps end) (column_spans port s origin (p ∷ (ps ++ now ∷ [])))
          chain = column_chain (ps ++ now ∷ []) whole

          start_is : origin + time_of_periods (p ∷ ps) ≡ since + 0 * step_in port now
          start_is = let z : 0 * step_in port now ≡ 0 = omega arith in omega (arith, timed_is, z)

          count_is : positions port now ≡ positions port now - 0
          count_is = omega arith

          -- nothing of the plan was done before
          none_before : done entries from m ≡ 0
          none_before = let e = ap (λ l. slice_index l m) now_whole.whole in omega (arith, counts, full, e)

          acts_are : acts * rate_in port now ≡ done entries place m * rate_in port now
          acts_are = ap (λ k. k * rate_in port now) (let z = none_before in let e : acts ≡ done entries place m = omega (arith, z) in e)

          first_whole : done_before p m * rate_in port p + outputs_in port p ≡ positions port p
          first_whole =
              sym (add-mul (done_before p m) (slice_index p.counts m) (rate_in port p))
              ∙ ap (λ k. k * rate_in port p) (let l = timed.left m in let e : done_before p m + slice_index p.counts m ≡ slice_index p.info.counts m = omega (arith, l) in e)

          total : length (held_by s) + (sum_by (outputs_in port) (p ∷ ps) + acts * rate_in port now) + 0 ≡ count_of_spans (column_spans port s origin (p ∷ ps)) + (port.delay + done entries place m * rate_in port now)
          total =
              let l = held_long s in
              let h = begins.held in
              let f = first_whole in
              let a = acts_are in
              let c = column_total port s origin p ps in
              let w = whole_sum flat cluster port ps (now ∷ []) whole in
              let o = sum_by-cons (outputs_in port) p ps in
              let b = begins.within in
              omega (arith, l, h, f, a, c, w, o, b)
