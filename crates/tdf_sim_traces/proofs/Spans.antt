-- The periods of a signal by those of its cluster.
use Rattle.std.proofs.Common.{◌≡◌, ◌∙◌, ℕ, zero, suc, ◌+◌, ◌-◌, ◌*◌, ◌/◌, ◌<◌, ◌≤◌, Bool, true, false, ◌&&◌, nat_eq, Some, List, [], ◌∷◌, ◌++◌, length, slice_get, slice_index, refl, ap, sym, subst, arith, append-nil}
use Rattle.std.proofs.lemmas.Bool.{eqb-true}
use Rattle.std.proofs.lemmas.List.{append_assoc}
use Rattle.std.proofs.lemmas.List.Sums.{sum_by-cons, sum_by_push}
use Rattle.std.proofs.Math.Nat.{add-mul, mul-le-mul_left}
use Rattle.std.proofs.lemmas.Option.{get_or_from_slice_get, slice_get_within}
use Rattle.std.specs.List.{sum_by}
use Rattle.std.specs.Prelude.{All}
use Rattle.tdf_base.specs.Limits.{time_end}
use Rattle.tdf_sim_refinement.specs.Below.{ClusterOf, turns_from}
use Rattle.tdf_bind.specs.declared.model.Flat.{Flat}
use Rattle.tdf_streams.proofs.Api.{get_low, steps_whole}
use Rattle.tdf_sim_history.specs.Cells.{column_spans, samples_done, spans_from}
use Rattle.tdf_sim_history.specs.Columns.{ColumnStart, held_by, span_after, spans_to}
use Rattle.tdf_sim_history.proofs.Api.{column_total, held_long, last_record, record_at, whole_sum}
use Rattle.tdf_sim_refinement.proofs.Api.{done_none}
use Rattle.tdf_trace.specs.Tracks.{IsChain}
use Rattle.tdf_sim_history.specs.Instant.{is_over, periods_of}
use Rattle.tdf_sim_history.specs.World.{ClusterAt}
use Rattle.tdf_bind_invariants.specs.Limits.{AreWithinLimits}
use Rattle.tdf_trace_rows.specs.Positions.{AreChained, Span, span_end, span_of, count_of_spans}
use Rattle.tdf_sim_refinement.specs.At.{IsAt}
use Rattle.tdf_schedule.specs.Plan.{done}
use Rattle.tdf_trace.proofs.Api.{get_last}
use Rattle.tdf_sim_traces.specs.Periods.{CanBegin, positions_in, row_rate, span_in}
use Rattle.tdf_sim_traces.specs.Signals.{DrivesTraced}
use Rattle.tdf_sim_traces.specs.declared.signals.TracedSignal.{TracedSignal}
use Rattle.tdf_streams.specs.Laws.{IsClusterPort}
use Rattle.tdf_streams.specs.Periods.{IsPeriodRecord, IsWholeRecord, PeriodRecord}
use Rattle.tdf_streams.specs.Cluster.{Start}
use Rattle.tdf_streams.specs.Signals.{outputs_in, positions, rate_in, step_in, time_of_periods}
use Rattle.tdf_lang_tree.specs.Pure.{PureTree}
use Rattle.tdf_bind_connections.specs.declared.modules.PortRow.{PortRow}
use Rattle.tdf_sim_history.specs.WorldLaws.{AreRecordsOf, HasDone, HoldsFirst}
use Rattle.std.proofs.lemmas.List.Elements.{All-cons, All-nil}

-- a period with one position
pub by_one : (period count : ℕ) → count ≡ 1 → period / count ≡ period
by_one period count one = rw one (omega arith)

all_at : {A : Type 0} (P : A → Type 0) (xs : List A) (i : ℕ) (x : A) → All P xs → slice_get xs i ≡ Some x → P x
all_at P xs i x all at = subst P (get_or_from_slice_get xs i x x at) (all i x (slice_get_within xs i x at))

-- the time of one period more
pub times_push : (ps : List PeriodRecord) (p : PeriodRecord) → time_of_periods (ps ++ p ∷ []) ≡ time_of_periods ps + p.info.period
times_push ps p = sum_by_push (λ (r : PeriodRecord). r.info.period) ps p

least : (a b : ℕ) → 0 < b → a ≤ a * b
least a b some = let m : a * 1 ≤ a * b = mul-le-mul_left a (omega (arith, some)) in let one : a * 1 ≡ a = omega arith in omega (arith, m, one)

-- the records before the last are records
pub records_front : (flat : Flat) (number : ℕ) (begun : Start) (ps : List PeriodRecord) (now : PeriodRecord) → 0 < length ps → AreRecordsOf flat number begun (ps ++ now ∷ []) → AreRecordsOf flat number begun ps
records_front flat number begun [] now some records = absurd (omega (arith, some))
records_front flat number begun (first ∷ later) now some records = record { lists = records.lists; head = records.head; rest = front later records.rest }
  where
    front : (ps : List PeriodRecord) → All (IsWholeRecord flat number) (ps ++ now ∷ []) → All (IsWholeRecord flat number) ps
    front [] all = All-nil (IsWholeRecord flat number)
    front (p ∷ ps) all = All-cons (IsWholeRecord flat number) p ps (all_at (IsWholeRecord flat number) (p ∷ (ps ++ now ∷ [])) 0 p all refl) (front ps (λ j d below. all (suc j) d (omega (arith, below))))

-- a start fits the first period, whatever follows
pub holds_more : (s : ColumnStart) (port : PortRow) (ps qs : List PeriodRecord) → 0 < length ps → HoldsFirst s port ps → HoldsFirst s port (ps ++ qs)
holds_more s port [] qs some holds = absurd (omega (arith, some))
holds_more s port (p ∷ ps) qs some holds = holds

module _ (port : PortRow) where
  -- how many positions a column has, where the firings of its periods are done
  pub column_done : (flat : Flat) (cluster : ℕ) (begun : Start) (s : ColumnStart) (origin : ℕ) (ps : List PeriodRecord) → AreRecordsOf flat cluster begun ps → HoldsFirst s port ps
      → count_of_spans (column_spans port s origin ps) ≤ length (held_by s) + sum_by (outputs_in port) ps
  column_done flat cluster begun s origin [] records holds = absurd records
  column_done flat cluster begun s origin (p ∷ ps) records holds =
      let t = column_total port s origin p ps in
      let l = held_long s in
      let c = sum_by-cons (outputs_in port) p ps in
      let w = whole_sum flat cluster port ps [] (subst (All (IsWholeRecord flat cluster)) (sym (append-nil ps)) records.rest) in
      let h = holds.1 in
      omega (arith, t, l, c, w, h)

  -- the last of its positions is followed by the end of the last period
  pub column_last : (flat : Flat) (cluster : ℕ) (begun : Start) (s : ColumnStart) (origin : ℕ) (ps : List PeriodRecord) → AreRecordsOf flat cluster begun ps → HoldsFirst s port ps
      → ((k : ℕ) (p : PeriodRecord) → slice_get ps k ≡ Some p → positions port p * step_in port p ≡ p.info.period)
      → (front : List Span) × (last : Span) × (column_spans port s origin ps ≡ front ++ last ∷ []) × (span_end last ≡ origin + time_of_periods ps)
  column_last flat cluster begun s origin [] records holds whole = absurd records
  column_last flat cluster begun s origin (p ∷ ps) records holds whole = go ps (origin + p.info.period) (spans_to s.stamps (origin + s.skipped * step_in port p)) (span_after origin (step_in port p) (positions port p) s.skipped) first_end (λ k q at. whole (suc k) q at) sums
    where
      first_end : span_end (span_after origin (step_in port p) (positions port p) s.skipped) ≡ origin + p.info.period
      first_end =
          let e : s.skipped + (positions port p - s.skipped) ≡ positions port p = (let h = holds.0 in omega (arith, h)) in
          let d : s.skipped * step_in port p + (positions port p - s.skipped) * step_in port p ≡ (s.skipped + (positions port p - s.skipped)) * step_in port p = sym (add-mul s.skipped (positions port p - s.skipped) (step_in port p)) in
          let m = ap (λ n. n * step_in port p) e in
          let w = whole 0 p refl in omega (arith, d, m, w)

      sums : origin + p.info.period + time_of_periods ps ≡ origin + time_of_periods (p ∷ ps)
      sums = let c = sum_by-cons (λ (r : PeriodRecord). r.info.period) p ps in omega (arith, c)

      go : (qs : List PeriodRecord) (t : ℕ) (front : List Span) (x : Span) → span_end x ≡ t → ((k : ℕ) (q : PeriodRecord) → slice_get qs k ≡ Some q → positions port q * step_in port q ≡ q.info.period)
          → t + time_of_periods qs ≡ origin + time_of_periods (p ∷ ps)
          → (before : List Span) × (last : Span) × (front ++ x ∷ spans_from port t qs ≡ before ++ last ∷ []) × (span_end last ≡ origin + time_of_periods (p ∷ ps))
      go [] t front x at each sum = (front, x, refl, let z : t + time_of_periods [] ≡ t = omega arith in at ∙ sym z ∙ sum)
      go (q ∷ qs) t front x at each sum =
          let w = each 0 q refl in
          let c = sum_by-cons (λ (r : PeriodRecord). r.info.period) q qs in
          let r = go qs (t + q.info.period) (front ++ x ∷ []) (span_of t (step_in port q) (positions port q)) (ap (λ n. t + n) w) (λ k u there. each (suc k) u there) (omega (arith, c, sum)) in
          (r.0, r.1, sym (append_assoc front (x ∷ []) (span_of t (step_in port q) (positions port q) ∷ spans_from port (t + q.info.period) qs)) ∙ r.2, r.3)

  -- a further period follows a chain of those before
  chain_more : (b : ℕ) (front : List Span) (last next : Span) → AreChained b (front ++ last ∷ []) → next.start ≡ span_end last → 0 < next.step → AreChained b ((front ++ last ∷ []) ++ next ∷ [])
  unfolding AreChained
  chain_more b [] last next chain at some = (chain.0, chain.1, (at, some, tt))
  chain_more b (x ∷ xs) last next chain at some = (chain.0, chain.1, chain_more (span_end x) xs last next chain.2 at some)

  pub chain_push : (spans front : List Span) (last next : Span) → spans ≡ front ++ last ∷ [] → IsChain spans → next.start ≡ span_end last → 0 < next.step → IsChain (spans ++ next ∷ [])
  chain_push spans front last next is chain at some =
      (chain.0, subst (λ l. AreChained chain.0 (l ++ next ∷ [])) (sym is) (chain_more chain.0 front last next (subst (AreChained chain.0) is chain.1) at some))

  -- one period alone is a chain
  pub one_chain : (x : Span) → 0 < x.step → IsChain (x ∷ [])
  unfolding AreChained
  one_chain x some = (x.start, (refl, some, tt))

  module _ (model : PureTree) (flat : Flat) (n number : ℕ) (drives : DrivesTraced flat n number port) where
    of_cluster : IsClusterPort flat (n + 1) number port
    of_cluster = record { there = drives.traced.there; inside = drives.traced.inside }

    -- a period takes some time
    pub steps_of : AreWithinLimits flat → (p : PeriodRecord) → IsPeriodRecord flat (n + 1) p → (0 < step_in port p) × (positions port p * step_in port p ≡ p.info.period)
    steps_of limits p whole = steps_whole flat (n + 1) number port p limits of_cluster whole.timed

    positions_some : AreWithinLimits flat → (p : PeriodRecord) → IsPeriodRecord flat (n + 1) p → (k : ℕ) → k ≡ positions port p → 0 < k
    positions_some limits p whole zero none = absurd (let s = steps_of limits p whole in let w : 0 < p.info.period / 0 = subst (λ k. 0 < p.info.period / k) (sym none) s.0 in omega (arith, w))
    positions_some limits p whole (suc k) is = omega arith

    takes_some : AreWithinLimits flat → (p : PeriodRecord) → IsPeriodRecord flat (n + 1) p → 0 < p.info.period
    takes_some limits p whole =
        let s = steps_of limits p whole in
        let l : positions port p ≤ positions port p * step_in port p = least (positions port p) (step_in port p) s.0 in
        let m = positions_some limits p whole (positions port p) refl in
        let e = s.1 in omega (arith, l, m, e)

    -- so does the one before that of a cluster in progress
    pub last_takes_some : AreWithinLimits flat → (h g : ClusterAt) → AreRecordsOf flat (n + 1) g.begun (periods_of g) → g.old ≡ periods_of h → 0 < h.now.info.period
    last_takes_some limits h g whole old =
        takes_some limits h.now (record_at flat (n + 1) g.begun (periods_of g) (length h.old) h.now whole
        (ap (λ l. slice_get (l ++ g.now ∷ []) (length h.old)) old
        ∙ get_low (periods_of h) (g.now ∷ []) (length h.old) (slice_get_within (periods_of h) (length h.old) h.now (get_last h.old h.now)) ∙ get_last h.old h.now))

    -- what a cluster in progress says of the period
    module _ (h : ClusterAt) (c : ClusterOf) (t : TracedSignal) (is : IsAt model flat (n + 1) h c) (port_is : t.port ≡ number) (module_is : t.«module» ≡ port.«module») where
      now_record : IsPeriodRecord flat (n + 1) h.now
      now_record = last_record flat (n + 1) h.begun h.old h.now is.records

      -- the end of its periods
      pub last_span : AreWithinLimits flat → (s : ColumnStart) → HoldsFirst s port (periods_of h)
          → (front : List Span) × (last : Span) × (column_spans port s h.origin (periods_of h) ≡ front ++ last ∷ []) × (span_end last ≡ h.origin + time_of_periods (periods_of h))
      last_span limits s holds = column_last flat (n + 1) h.begun s h.origin (periods_of h) is.records holds
          (λ k p at. (steps_of limits p (record_at flat (n + 1) h.begun (periods_of h) k p is.records at)).1)

      whole_counts : turns_from c.entries 0 (length c.entries) port.«module» ≡ slice_index h.now.info.counts port.«module»
      whole_counts =
          let e = ap (λ es. turns_from es 0 (length es) port.«module») is.entries_are in
          let z = done_none h.entries port.«module» in
          let k = is.counts port.«module» in omega (arith, e, z, k)

      pub positions_are : positions_in flat.tables c t ≡ positions port h.now
      positions_are =
          ap (λ m. turns_from c.entries 0 (length c.entries) m * row_rate c.table (slice_get flat.tables.ports t.port)) module_is
          ∙ ap (λ k. k * row_rate c.table (slice_get flat.tables.ports t.port)) whole_counts
          ∙ ap (λ r. slice_index h.now.info.counts port.«module» * r) (ap (λ m. row_rate c.table (slice_get flat.tables.ports m)) port_is ∙ ap (row_rate c.table) drives.traced.there ∙ ap (λ l. row_rate l (Some port)) is.table_is)

      pub span_is : (time : ℕ) → span_in flat.tables time c t ≡ span_of time (step_in port h.now) (positions port h.now)
      span_is time = ap (λ k. span_of time (c.period / k) k) positions_are ∙ ap (λ p. span_of time (p / positions port h.now) (positions port h.now)) is.time_is

      -- the period can begin where its end is a time of 64 bits
      pub can_begin : AreWithinLimits flat → (time : ℕ) → time < time_end → CanBegin flat time c t
      can_begin limits time early =
          let s = steps_of limits h.now now_record in
          let short : h.now.info.period < time_end = now_record.timed.period_is.short in
          let p : c.period ≡ h.now.info.period = is.time_is in
          let q : positions_in flat.tables c t ≡ positions port h.now = positions_are in
          let l : positions port h.now ≤ positions port h.now * step_in port h.now = least (positions port h.now) (step_in port h.now) s.0 in
          let e = s.1 in
          record {
            of = is.of;
            port = subst (λ m. m < length flat.tables.ports) (sym port_is) (slice_get_within flat.tables.ports number port drives.traced.there);
            some = subst (λ k. 0 < k) (sym q) (positions_some limits h.now now_record (positions port h.now) refl);
            few = omega (arith, q, l, e, short);
            short = omega (arith, p, short, early);
          }

    -- all positions of a period that is over have their samples
    pub none_left : (h : ClusterAt) (s : ColumnStart) (time : ℕ) → HasDone model flat (n + 1) h → HoldsFirst s port (periods_of h) → is_over time h ≡ true
        → count_of_spans (column_spans port s h.origin (periods_of h)) ≤ samples_done s port h
    none_left h s time has holds over =
        let t = column_done flat (n + 1) h.begun s h.origin (periods_of h) has.records holds in
        let o = sum_by_push (outputs_in port) h.old h.now in
        let place : h.place ≡ length h.entries = eqb-true h.place (length h.entries) (and_left (nat_eq h.place (length h.entries)) (nat_eq time (h.since + h.now.info.period)) over) in
        let p = ap (λ i. done h.entries i port.«module») place in
        let k = has.plan.counts port.«module» in
        let e : done h.entries h.place port.«module» - done h.entries h.from port.«module» ≡ slice_index h.now.counts port.«module» = omega (arith, p, k) in
        let d = ap (λ i. i * rate_in port h.now) e in
        omega (arith, t, o, d)
      where
        and_left : (p q : Bool) → (p && q) ≡ true → p ≡ true
        and_left true q h = refl
        and_left false q h = h

-- when it is over
pub over_time : (h : ClusterAt) (time : ℕ) → is_over time h ≡ true → time ≡ h.since + h.now.info.period
over_time h time over = eqb-true time (h.since + h.now.info.period) (and_right (nat_eq h.place (length h.entries)) (nat_eq time (h.since + h.now.info.period)) over)
  where
    and_right : (p q : Bool) → (p && q) ≡ true → q ≡ true
    and_right true q h = h
    and_right false q h = absurd (grind (arith, h))
