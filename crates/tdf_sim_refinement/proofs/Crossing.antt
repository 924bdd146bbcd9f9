-- A cluster in progress comes to what the history says of it after a boundary.
use Rattle.std.proofs.Common.{◌≡◌, ◌∙◌, ℕ, ◌-◌, ◌<◌, ◌≤◌, ◌^◌, min, Bool, List, [], ◌∷◌, ◌++◌, None, Some, false, true, length, nat_eq, inl, inr, refl, sym, ap, subst, arith}
use Rattle.std.proofs.lemmas.Bool.{cases_lt}
use Rattle.std.proofs.lemmas.List.Sums.{sum_by-append, sum_by-cons}
use Rattle.std.proofs.lemmas.Option.{get_or_from_slice_get, slice_get_within}
use Rattle.std.specs.List.{All, count_by, sum_by}
use Rattle.std.specs.Prelude.{drop, slice_get, slice_index, slice_index_or}
use Rattle.tdf_exec.specs.Cluster.{ClusterOf, next_offset, offset_in}
use Rattle.tdf_exec.specs.Crossing.{CrossesFrom, HasBegunPeriod, HasCrossed}
use Rattle.tdf_exec.specs.Made.{IsClusterOf}
use Rattle.tdf_exec.specs.Played.{IsPeriodOf, play_of}
use Rattle.tdf_exec.specs.Next as next
use Rattle.tdf_dynamic_plans.specs.Attributes.{AttrsOf}
use Rattle.tdf_dynamic_plans.specs.Known.{AttrsTable}
use Rattle.tdf_dynamic_plans.specs.Rates.{net_of}
use Rattle.tdf_expr.specs.Checked.{IsCheckedOf}
use Rattle.tdf_bind.specs.declared.model.Flat.{Flat}
use Rattle.tdf_streams.proofs.Api.{get_high, get_inside, none_some, table_record}
use Rattle.tdf_streams.specs.Net.{count}
use Rattle.tdf_streams.specs.Stands.{Crosses, Stands}
use Rattle.tdf_sim_history.specs.Instant.{activations, periods_of, same_period, with_new, with_same}
use Rattle.tdf_sim_history.specs.Start.{counts_in}
use Rattle.tdf_sim_history.specs.World.{Change, ClusterAt}
use Rattle.tdf_sim_refinement.proofs.Arriving.{done_none}
use Rattle.tdf_exec.proofs.Api.{plan_counts}
use Rattle.tdf_sim_refinement.proofs.Beginning.{counted_in}
use Rattle.tdf_sim_refinement.proofs.Writing.{done_all, enough}
use Rattle.tdf_sim_refinement.specs.At.{HaveRead, IsAt}
use Rattle.tdf_sim_refinement.specs.Boundary.{BoundariesKeepAt}
use Rattle.tdf_schedule.specs.Plan.{done}
use Rattle.tdf_schedule.specs.declared.entry.Entry.{Entry}
use Rattle.tdf_schedule.specs.declared.entry.Plan.{Plan}
use Rattle.tdf_streams.specs.Cluster.{cluster_net}
use Rattle.tdf_streams.specs.Laws.{HasRecord}
use Rattle.tdf_streams.specs.Periods.{IsTimedRecord, IsWholeRecord, PeriodRecord, period_record, read_rates, write_rates, IsPeriodRecord}
use Rattle.tdf_streams.specs.Starts.{ArePast}
use Rattle.tdf_lang_tree.specs.Pure.{PureTree}
use Rattle.tdf_sim_history.proofs.Api.{last_record, past_of, records_push}

pub all_at : {X : Type 0} (P : X → Type 0) (xs : List X) (j : ℕ) (x : X) → All P xs → slice_get xs j ≡ Some x → P x
all_at P xs j x all is = subst P (get_or_from_slice_get xs j x x is) (all j x (slice_get_within xs j x is))

last_at : {X : Type 0} (xs : List X) (x : X) → slice_get (xs ++ x ∷ []) (length xs) ≡ Some x
last_at xs x = let low : length xs ≤ length xs = omega arith in let z : length xs - length xs ≡ 0 = omega arith in
    get_high xs (x ∷ []) (length xs) low ∙ ap (slice_get (x ∷ [])) z

-- the period of a cluster is done
pub all_done : (model : PureTree) (flat : Flat) (number : ℕ) (h : ClusterAt) (c : ClusterOf) → IsAt model flat number h c → next_offset c ≡ None → h.place ≡ length h.entries
all_done model flat number h c at end = let w = at.of.within in let l = ap length at.entries_are in let p = at.place_is in elim (cases_lt c.place (length c.entries)) [
  | inl inside ↦ (let x = get_inside c.entries c.place inside in none_some x.0.offset (sym end ∙ ap offset_in x.1))
  | inr past ↦ omega (arith, w, l, p, past)
]

-- its record is that of a period
pub record_now : (model : PureTree) (flat : Flat) (number : ℕ) (h : ClusterAt) (c : ClusterOf) → IsAt model flat number h c → IsPeriodRecord flat number h.now
record_now model flat number h c at = last_record flat number h.begun h.old h.now at.records

-- the whole period of a cluster, by its table and its plan
module _ (flat : Flat) (d : ClusterOf) (of : IsClusterOf flat d) (is_new : Bool) where
  of_plan : HasRecord flat d.number d.table of.planned.plan is_new
  of_plan = table_record flat d.number d.table of.planned.plan is_new of.attributes of.planned.plan_is

  counted : (m : ℕ) → count_by (λ (x : Entry). nat_eq x.actor m) d.entries ≡ slice_index of_plan.counts m
  counted m = ap (count_by (λ (x : Entry). nat_eq x.actor m)) (sym of.planned.entries_are)
      ∙ plan_counts (net_of flat.tables d.table).edges _ of_plan.counts of.planned.plan.entries.items of_plan.plan_is.planned m

  counts_are : counts_in flat.tables d.entries ≡ of_plan.counts
  counts_are = counted_in flat d.entries of_plan.counts of_plan.record_is.is.timed.counts_are.long counted

  abbrev pub own_record : PeriodRecord
  own_record = period_record flat.tables d.table (counts_in flat.tables d.entries) d.period is_new

  pub own_whole : IsWholeRecord flat d.number own_record
  own_whole = subst (λ l. IsWholeRecord flat d.number (period_record flat.tables d.table l d.period is_new)) (sym counts_are)
      (subst (λ t. IsWholeRecord flat d.number (period_record flat.tables d.table of_plan.counts t is_new)) of.planned.period_is of_plan.record_is)

  pub own_counted : (m : ℕ) → slice_index (counts_in flat.tables d.entries) m ≡ done d.entries (length d.entries) m
  own_counted m = ap (λ l. slice_index l m) counts_are ∙ sym (counted m) ∙ done_all d.entries m

  pub own_period : d.place ≡ 0 → IsPeriodOf d 0 own_record
  own_period start = record {
    started = omega arith;
    counts = λ m. (let o = own_counted m in let z = done_none d.entries m in omega (arith, o, z));
    reads = sym of.reads_are;
    writes = sym of.writes_are;
    table = refl;
  }

-- a cluster that crossed from its period, and begins the next, which its table and plan give
module _ (model : PureTree) (flat : Flat) (number time : ℕ) (h : ClusterAt) (c : ClusterOf) (at : IsAt model flat number h c) (end : next_offset c ≡ None) where
  last : IsPeriodRecord flat number h.now
  last = record_now model flat number h c at

  -- it crosses by the streams of the history
  module _ (crossed : ClusterOf) (is : HasCrossed c crossed) (cross : CrossesFrom flat c crossed) where
    number_x : number ≡ crossed.number
    number_x = sym at.number_is ∙ sym (ap (λ (z : ClusterOf). z.number) is.rest)

    crosses : IsCheckedOf model flat.checked → Crosses (cluster_net model flat number h.begun) h.old h.now (λ m. slice_index_or h.reads m []) at.steps (play_of h.from crossed)
    crosses checked =
        let stood = subst (λ j. Stands (cluster_net model flat j h.begun) h.old h.now (λ m. slice_index_or h.reads m []) at.steps (play_of h.from c)) (sym at.number_is) at.stands in
        subst (λ j. Crosses (cluster_net model flat j h.begun) h.old h.now (λ m. slice_index_or h.reads m []) at.steps (play_of h.from crossed)) at.number_is
        (cross model h.begun h.old h.now (λ m. slice_index_or h.reads m []) h.from at.steps checked at.period stood)

    stands_by : (next : PeriodRecord) (d : ClusterOf) → IsCheckedOf model flat.checked
        → (ArePast flat crossed.number h.begun h.old h.now → IsTimedRecord flat crossed.number h.now
        → Crosses (cluster_net model flat crossed.number h.begun) h.old h.now (λ m. slice_index_or h.reads m []) at.steps (play_of h.from crossed)
        → Stands (cluster_net model flat crossed.number h.begun) (h.old ++ h.now ∷ []) next (λ m. slice_index_or h.reads m []) at.steps (play_of 0 d))
        → Stands (cluster_net model flat number h.begun) (h.old ++ h.now ∷ []) next (λ m. slice_index_or h.reads m []) at.steps (play_of 0 d)
    stands_by next d checked by = subst
        (λ j. ArePast flat j h.begun h.old h.now → IsTimedRecord flat j h.now → Crosses (cluster_net model flat j h.begun) h.old h.now (λ m. slice_index_or h.reads m []) at.steps (play_of h.from crossed)
        → Stands (cluster_net model flat j h.begun) (h.old ++ h.now ∷ []) next (λ m. slice_index_or h.reads m []) at.steps (play_of 0 d))
        (sym number_x) by (past_of flat number h.begun h.old h.now at.records) last.timed (crosses checked)

  module _ (d : ClusterOf) (entries : List Entry) (bounds : List ℕ) (next : PeriodRecord) (is_new : Bool) (of : IsClusterOf flat d) (number_is : d.number ≡ number) (place_is : d.place ≡ 0)
      (not_crossed : d.crossed ≡ false) (entries_are : d.entries ≡ entries) (bounds_are : d.bounds ≡ bounds) (next_is : own_record flat d of is_new ≡ next)
      (positions_are : d.positions ≡ c.positions)
      (stands : Stands (cluster_net model flat number h.begun) (h.old ++ h.now ∷ []) next (λ m. slice_index_or h.reads m []) at.steps (play_of 0 d)) where
    abbrev after : ClusterAt
    after = record h { entries = entries; bounds = bounds; since = time; from = 0; place = 0; old = periods_of h; now = next; ahead = drop 1 h.ahead }

    next_whole : IsWholeRecord flat number next
    next_whole = subst (λ n. IsWholeRecord flat n next) number_is (subst (IsWholeRecord flat d.number) next_is (own_whole flat d of is_new))

    -- at the end of a period as at the head of the next
    next_activations : (m : ℕ) → activations h m ≡ activations after m
    next_activations m =
        let s = sum_by-append (λ (q : PeriodRecord). count m q) h.old (h.now ∷ []) in
        let o = sum_by-cons (λ (q : PeriodRecord). count m q) h.now [] in
        let n : sum_by (λ (q : PeriodRecord). count m q) [] ≡ 0 = refl in
        let k = at.period.counts m in
        let y = done_none entries m in
        let e = ap (λ es. done es (length es) m - done es h.from m) at.entries_are in
        let p = ap (λ i. done h.entries i m) (all_done model flat number h c at end) in omega (arith, s, o, n, k, y, e, p)

    next_read : HaveRead flat.tables number after
    next_read = record { same = at.have_read.same; samplers = λ m sampler. at.have_read.samplers m sampler ∙ next_activations m }

    next_positions : (m : ℕ) → m < length d.positions → slice_index d.positions m ≡ min (activations after m) (2 ^ 64 - 1)
    next_positions m below =
        let l = ap length positions_are in let p = ap (λ l. slice_index l m) positions_are in
        let was = at.positions m (omega (arith, below, l)) in let n = next_activations m in omega (arith, p, was, n)

    pub begins_at : IsAt model flat number after d
    begins_at = record {
      number_is = number_is;
      entries_are = entries_are;
      bounds_are = bounds_are;
      place_is = place_is;
      table_is = ap (λ (p : PeriodRecord). p.info.table) next_is;
      time_is = ap (λ (p : PeriodRecord). p.info.period) next_is;
      not_crossed = not_crossed;
      none_ahead = ap (λ (a : List Change). drop 1 a) at.none_ahead;
      of = of;
      period = subst (IsPeriodOf d 0) next_is (own_period flat d of is_new place_is);
      counts = λ m. ap (λ (p : PeriodRecord). slice_index p.info.counts m) (sym next_is) ∙ own_counted flat d of is_new m ∙ ap (λ es. done es (length es) m) entries_are;
      records = records_push flat number h.begun h.old h.now next at.records next_whole;
      have_read = next_read;
      positions = next_positions;
      steps = at.steps;
      few = (
          let p = all_done model flat number h c at end in
          let e = enough model flat number h.since [] h c c [] at (omega arith) 0 (omega (arith, p)) in omega (arith, e));
      stands = stands;
    }

  -- with the same plan, and the flags that were said
  module _ (crossed d : ClusterOf) (is : HasCrossed c crossed) (begun : HasBegunPeriod crossed next.Same d) (of : IsClusterOf flat d) where
    abbrev back : ClusterOf → ClusterOf
    back z = record z { place = 0; crossed = false }

    d_is : d ≡ back (record c { table = crossed.table; known = crossed.known; crossed = true; runners = crossed.runners })
    d_is = begun ∙ ap back is.rest

    -- its record in parts
    abbrev parts : (counts writes reads : List ℕ) → List AttrsOf → (period : ℕ) → PeriodRecord
    parts counts writes reads table period = record { counts = counts; writes = writes; reads = reads; info = record { table = table; counts = counts; period = period; is_new = false } }

    same_counts : counts_in flat.tables d.entries ≡ h.now.info.counts
    same_counts = counted_in flat d.entries h.now.info.counts last.timed.counts_are.long (λ m.
        let a = done_all d.entries m in
        let e = ap (λ (z : ClusterOf). done z.entries (length z.entries) m) d_is in
        let c_is = ap (λ es. done es (length es) m) at.entries_are in
        let k = at.counts m in omega (arith, a, e, c_is, k))

    same_is : own_record flat d of false ≡ same_period crossed.table h.now
    same_is =
        ap (λ l. parts l (write_rates (net_of flat.tables d.table)) (read_rates (net_of flat.tables d.table)) d.table d.period) same_counts
        ∙ ap (λ l. parts h.now.info.counts l (read_rates (net_of flat.tables d.table)) d.table d.period) (sym of.writes_are ∙ ap (λ (z : ClusterOf). z.writes) d_is ∙ sym at.period.writes)
        ∙ ap (λ l. parts h.now.info.counts h.now.writes l d.table d.period) (sym of.reads_are ∙ ap (λ (z : ClusterOf). z.reads) d_is ∙ sym at.period.reads)
        ∙ ap (λ t. parts h.now.info.counts h.now.writes h.now.reads t d.period) (ap (λ (z : ClusterOf). z.table) d_is)
        ∙ ap (parts h.now.info.counts h.now.writes h.now.reads crossed.table) (ap (λ (z : ClusterOf). z.period) d_is ∙ at.time_is)

    pub same_at : Stands (cluster_net model flat number h.begun) (h.old ++ h.now ∷ []) (same_period crossed.table h.now) (λ m. slice_index_or h.reads m []) at.steps (play_of 0 d)
        → IsAt model flat number (with_same time crossed.table h) d
    same_at stands = begins_at d h.entries h.bounds (same_period crossed.table h.now) false of
        (ap (λ (z : ClusterOf). z.number) d_is ∙ at.number_is) (ap (λ (z : ClusterOf). z.place) d_is) (ap (λ (z : ClusterOf). z.crossed) d_is)
        (ap (λ (z : ClusterOf). z.entries) d_is ∙ at.entries_are) (ap (λ (z : ClusterOf). z.bounds) d_is ∙ at.bounds_are) same_is (ap (λ (z : ClusterOf). z.positions) d_is) stands

  -- with a new one
  module _ (crossed d : ClusterOf) (attrs : AttrsTable) (plan : Plan) (is : HasCrossed c crossed) (begun : HasBegunPeriod crossed (next.Changed attrs plan) d) (of : IsClusterOf flat d) where
    abbrev new : ClusterAt
    new = with_new flat.tables time attrs.rows (counts_in flat.tables plan.entries.items) plan.period plan.entries.items plan.bounds.items h

    pub new_at : Stands (cluster_net model flat number h.begun) (h.old ++ h.now ∷ []) new.now (λ m. slice_index_or h.reads m []) at.steps (play_of 0 d) → IsAt model flat number new d
    new_at stands = begins_at d plan.entries.items plan.bounds.items new.now true of
        (ap (λ (z : ClusterOf). z.number) begun.rest ∙ ap (λ (z : ClusterOf). z.number) is.rest ∙ at.number_is) (ap (λ (z : ClusterOf). z.place) begun.rest) (ap (λ (z : ClusterOf). z.crossed) begun.rest)
        (ap (λ (z : ClusterOf). z.entries) begun.rest) (ap (λ (z : ClusterOf). z.bounds) begun.rest)
        (ap (λ (z : ClusterOf). period_record flat.tables z.table (counts_in flat.tables z.entries) z.period true) begun.rest)
        (ap (λ (z : ClusterOf). z.positions) begun.rest ∙ ap (λ (z : ClusterOf). z.positions) is.rest) stands

pub boundary_at : BoundariesKeepAt
boundary_at model flat number time h next.Same c crossed d checked at passed =
    same_at model flat number time h c at passed.answered.done crossed d passed.crossed_is passed.begun passed.of
    (stands_by model flat number time h c at passed.answered.done crossed passed.crossed_is passed.crosses (same_period crossed.table h.now) d checked
    (λ past timed cross. passed.stands model h.begun h.old h.now (same_period crossed.table h.now) (λ m. slice_index_or h.reads m []) h.from at.steps past timed refl cross))
boundary_at model flat number time h (next.Changed attrs plan) c crossed d checked at passed =
    new_at model flat number time h c at passed.answered.done crossed d attrs plan passed.crossed_is passed.begun passed.of
    (stands_by model flat number time h c at passed.answered.done crossed passed.crossed_is passed.crosses
    (period_record flat.tables attrs.rows (counts_in flat.tables plan.entries.items) plan.period true) d checked
    (λ past timed cross. passed.stands model h.begun h.old h.now (period_record flat.tables attrs.rows (counts_in flat.tables plan.entries.items) plan.period true)
    (λ m. slice_index_or h.reads m []) h.from at.steps checked past timed refl refl cross))
