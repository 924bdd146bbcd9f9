-- The first plan of a cluster is safe, and the rings at its start fit it.
use Rattle.std.proofs.Common.{◌≡◌, ◌∙◌, ◌≢◌, ℕ, zero, suc, ◌+◌, ◌*◌, ◌<◌, ◌≤◌, Bool, true, false, if◌then◌else◌, nat_eq, List, [], ◌∷◌, Some, length, take, refl, sym, ap, subst, inl, inr, ◌⊎◌, arith}
use Rattle.std.proofs.lemmas.Bool.{cases_eq, cases_lt, ne_eqb}
use Rattle.std.proofs.lemmas.List.{get_or_past, length-map}
use Rattle.std.proofs.lemmas.List.Sums.{sum_by-cons}
use Rattle.std.proofs.lemmas.Option.{slice_get_within}
use Rattle.std.specs.List.{count_by}
use Rattle.std.specs.Prelude.{All, cond, slice_get, slice_index, slice_index_or}
use Rattle.tdf_bind_tables.specs.Actors.{cluster_of}
use Rattle.tdf_dynamic_first.specs.First.{IsFirstPlan}
use Rattle.tdf_dynamic_plans.specs.Attributes.{AttrsOf, clusters_of}
use Rattle.tdf_dynamic_plans.specs.Faults.{IsTablePlan, pace_in}
use Rattle.tdf_exec_parts.specs.Below.{IsTableFirst}
use Rattle.tdf_bind_invariants.specs.Limits.{AreWithinLimits}
use Rattle.tdf_dynamic_plans.specs.Rates.{net_of, net_ports, rated_edge}
use Rattle.tdf_dynamic_first.specs.declared.first.First.{First}
use Rattle.tdf_exec.specs.Cluster.{ClusterOf}
use Rattle.tdf_exec.specs.Made.{AreHeld, IsClusterSafe}
use Rattle.tdf_exec_layout.specs.Samples.{edge_format}
use Rattle.tdf_exec.specs.Starts.{IsSoundFlat}
use Rattle.tdf_exec.specs.declared.runners.Runner.{Runner}
use Rattle.tdf_exec.specs.machine.Laid.{IsLaid}
use Rattle.tdf_exec_parts.specs.Rings.{AreFirstRings, FitAtFirst, list_of}
use Rattle.tdf_expr.specs.Frames.{IsOfFormat}
use Rattle.tdf_fixed.specs.declared.format.Format.{Format}
use Rattle.tdf_fixed.specs.declared.raw.Raw.{Raw}
use Rattle.tdf_bind.specs.declared.model.Flat.{Flat}
use Rattle.tdf_streams.proofs.Api.{get_inside, some_same, active_inside, bound_at, entry_active, table_record, text_attributes, present_at, record_present, text_holds_delays, text_list}
use Rattle.tdf_rings.specs.Carried.{ring_at}
use Rattle.tdf_rings.specs.Rings.{RingOf}
use Rattle.tdf_schedule.specs.Laws.{PlansArePresent}
use Rattle.tdf_schedule.specs.Plan.{IsPlan, done}
use Rattle.tdf_schedule.specs.declared.entry.Entry.{Entry}
use Rattle.tdf_streams.specs.Cluster.{initial_list, text_start}
use Rattle.tdf_streams.specs.Laws.{HasRecord}
use Rattle.tdf_streams.specs.Periods.{AreAttributes, IsTimedRecord, PeriodRecord, period_record, read_rates, write_rates}
use Rattle.tdf_streams.specs.Places.{reader_at, writer_at, writer_of_row}
use Rattle.tdf_streams.specs.Starts.{held_at_head, initial_of_row}
use Rattle.tdf_bind_connections.specs.declared.edges.EdgeRow.{EdgeRow}

-- a cluster at a place of its first period, with these parts
abbrev pub start_of : (cluster : ℕ) → First → (place : ℕ) → (reads writes : List ℕ) → List RingOf → List Runner → (positions : List ℕ) → ClusterOf
start_of cluster first place reads writes rings runners positions = record {
  number = cluster;
  table = first.attrs.rows;
  entries = first.plan.entries.items;
  bounds = first.plan.bounds.items;
  period = first.plan.period;
  known = first.attrs.known;
  place = place;
  crossed = false;
  reads = reads;
  writes = writes;
  rings = rings;
  runners = runners;
  positions = positions;
}

-- the first attributes and plan are those of a table
pub text_first : (flat : Flat) (cluster : ℕ) (first : First) → AreWithinLimits flat → IsFirstPlan flat cluster first → IsTableFirst flat cluster first.attrs.rows first
text_first flat cluster first limits is = record {
  attrs_are = refl;
  attributes = subst (AreAttributes flat cluster) (sym is.attrs_are) (text_attributes flat cluster limits);
  plan_is = subst (λ (table : List AttrsOf). IsTablePlan flat.tables cluster table first.plan) (sym is.attrs_are) is.plan_is;
  known = is.known;
}

-- none passes before a place, where none passes
pub none_before : {A : Type 0} (p : A → Bool) (xs : List A) (i : ℕ) → ((j : ℕ) (x : A) → slice_get xs j ≡ Some x → p x ≡ false) → count_by p (take i xs) ≡ 0
none_before p xs zero none = refl
none_before p [] (suc i) none = refl
none_before p (x ∷ xs) (suc i) none =
    let s = sum_by-cons (λ z. cond {A = ℕ} (p z) 1 0) x (take i xs) in
    let r = none_before p xs i (λ j y at. none (suc j) y at) in
    let h : cond {A = ℕ} (p x) 1 0 ≡ 0 = ap (λ (b : Bool). cond {A = ℕ} b 1 0) (none 0 x refl) in
    omega (arith, s, r, h)

pub no_times : (n k : ℕ) → n ≡ 0 → n * k ≡ 0
no_times n k none = rw none (omega arith)

all_if : (P : Raw → Type 0) (xs : List Raw) (b : Bool) → All P xs → All P (if b then xs else [])
all_if P xs true all = all
all_if P xs false all = λ k d inside. absurd (omega (arith, inside))

module _ (flat : Flat) (cluster : ℕ) (first : First) (sound : IsSoundFlat flat) (laid : IsLaid flat) (is : IsTableFirst flat cluster first.attrs.rows first) (law : PlansArePresent) where
  pub has : HasRecord flat cluster first.attrs.rows first.plan true
  has = table_record flat cluster first.attrs.rows first.plan true is.attributes is.plan_is

  abbrev entries : List Entry
  entries = first.plan.entries.items

  abbrev bounds : List ℕ
  bounds = first.plan.bounds.items

  abbrev pub period : PeriodRecord
  period = period_record flat.tables first.attrs.rows has.counts first.plan.period true

  pub timed : IsTimedRecord flat cluster period
  timed = has.record_is.is.timed

  abbrev pace : ℕ → ℕ
  pace = pace_in (net_of flat.tables first.attrs.rows) has.steps

  planned : IsPlan (net_of flat.tables first.attrs.rows).edges pace has.counts entries
  planned = has.plan_is.planned

  active : (i : ℕ) (x : Entry) → slice_get entries i ≡ Some x → x.index < slice_index has.counts x.actor
  active i x at = entry_active (net_of flat.tables first.attrs.rows).edges pace has.counts entries planned i x at

  own : (i : ℕ) (x : Entry) → slice_get entries i ≡ Some x → slice_index (clusters_of flat.tables) x.actor ≡ cluster
  own i x at = active_inside flat cluster period timed x.actor x.index (active i x at)

  inside : (i : ℕ) (x : Entry) → slice_get entries i ≡ Some x → x.actor < length flat.tables.actors
  inside i x at = go (cases_lt x.actor (length has.counts))
    where
      long : length has.counts ≡ length flat.tables.actors
      long = timed.counts_are.long ∙ length-map flat.tables.actors cluster_of

      go : (x.actor < length has.counts) ⊎ (length has.counts ≤ x.actor) → x.actor < length flat.tables.actors
      go (inl below) = subst (λ n. x.actor < n) long below
      go (inr past) = absurd (let z = get_or_past has.counts x.actor 0 past in let a = active i x at in omega (arith, z, a))

  pub none_done : (m i : ℕ) → (slice_index (clusters_of flat.tables) m ≡ cluster → ⊥) → done entries i m ≡ 0
  unfolding done
  none_done m i apart = none_before (λ (x : Entry). nat_eq x.actor m) entries i
      (λ j x at. ne_eqb x.actor m (λ e. apart (ap (slice_index (clusters_of flat.tables)) (sym e) ∙ own j x at)))

  nothing_done : (m : ℕ) → done entries 0 m ≡ 0
  unfolding done
  nothing_done m = refl

  bounded : (i e : ℕ) → i ≤ length entries → e < length flat.tables.edges
      → held_at_head flat.tables cluster e + done entries i (writer_at flat.tables.edges e) * slice_index (write_rates (net_of flat.tables first.attrs.rows)) e
      ≤ slice_index bounds e + done entries i (reader_at flat.tables.edges e) * slice_index (read_rates (net_of flat.tables first.attrs.rows)) e
  bounded i e below within = go (cases_eq (slice_index (clusters_of flat.tables) (writer_at flat.tables.edges e)) cluster)
    where
      go : (slice_index (clusters_of flat.tables) (writer_at flat.tables.edges e) ≡ cluster) ⊎ (slice_index (clusters_of flat.tables) (writer_at flat.tables.edges e) ≢ cluster)
          → held_at_head flat.tables cluster e + done entries i (writer_at flat.tables.edges e) * slice_index (write_rates (net_of flat.tables first.attrs.rows)) e
          ≤ slice_index bounds e + done entries i (reader_at flat.tables.edges e) * slice_index (read_rates (net_of flat.tables first.attrs.rows)) e
      go (inl here) =
          let b = bound_at flat cluster laid.limits period timed pace first.plan has.plan_is i below e within here in
          omega (arith, b)
      go (inr apart) =
          let h : held_at_head flat.tables cluster e ≡ 0 = ap (λ b. if b then initial_of_row (slice_get flat.tables.edges e) else 0)
          (ne_eqb (slice_index (clusters_of flat.tables) (writer_at flat.tables.edges e)) cluster apart) in
          let d = no_times (done entries i (writer_at flat.tables.edges e)) (slice_index (write_rates (net_of flat.tables first.attrs.rows)) e)
          (none_done (writer_at flat.tables.edges e) i apart) in omega (arith, h, d)

  -- what the rings hold
  list_is : (e : ℕ) (edge : EdgeRow) → slice_get flat.tables.edges e ≡ Some edge
      → list_of flat.tables cluster edge ≡ slice_index_or (text_start sound.model flat cluster first.attrs.rows).lists e []
  list_is e edge at =
      ap (λ o. if nat_eq (slice_index (clusters_of flat.tables) (writer_of_row o)) cluster then initial_list flat.tables edge else []) (sym at)
      ∙ sym (text_list sound.model flat cluster first.attrs.rows e edge at)

  held_first : (e : ℕ) (edge : EdgeRow) → slice_get flat.tables.edges e ≡ Some edge → length (list_of flat.tables cluster edge) ≡ held_at_head flat.tables cluster e
  held_first e edge at = ap length (list_is e edge at)
      ∙ text_holds_delays sound.model flat cluster first.attrs.rows sound.is e (slice_get_within flat.tables.edges e edge at)

  edges_long : length (net_of flat.tables first.attrs.rows).edges ≡ length flat.tables.edges
  unfolding net_of
  edges_long = length-map flat.tables.edges (rated_edge flat.tables.ports (net_ports flat.tables first.attrs.rows))

  pub fit : FitAtFirst flat.tables cluster first.plan.bounds.items
  fit = record {
    long = has.plan_is.long ∙ edges_long;
    fits = λ e edge at.
        let h = held_first e edge at in let b = bounded 0 e (omega arith) (slice_get_within flat.tables.edges e edge at) in
        let w = no_times (done entries 0 (writer_at flat.tables.edges e)) (slice_index (write_rates (net_of flat.tables first.attrs.rows)) e) (nothing_done (writer_at flat.tables.edges e)) in
        let r = no_times (done entries 0 (reader_at flat.tables.edges e)) (slice_index (read_rates (net_of flat.tables first.attrs.rows)) e) (nothing_done (reader_at flat.tables.edges e)) in
        omega (arith, h, b, w, r);
  }

  module _ (place : ℕ) (rings : List RingOf) (runners : List Runner) (positions : List ℕ) where
    pub is_safe : IsClusterSafe flat.tables (start_of cluster first place (read_rates (net_of flat.tables first.attrs.rows)) (write_rates (net_of flat.tables first.attrs.rows)) rings runners positions)
    is_safe = record {
      inside = inside;
      own = own;
      present = λ i e x at within reader.
          present_at flat cluster laid.limits period timed entries (record_present flat cluster laid.limits period timed law pace entries planned) i x at (own i x at) e within reader;
      bounded = bounded;
    }

  module _ (rings : List RingOf) (runners : List Runner) (positions : List ℕ) (rings_are : AreFirstRings flat.tables cluster first.plan.bounds.items (length flat.tables.edges) rings) where
    abbrev begun : ClusterOf
    begun = start_of cluster first 0 (read_rates (net_of flat.tables first.attrs.rows)) (write_rates (net_of flat.tables first.attrs.rows)) rings runners positions

    ring_is : (e : ℕ) (edge : EdgeRow) (at : slice_get flat.tables.edges e ≡ Some edge) → (ring_at rings e).samples ≡ list_of flat.tables cluster edge
    ring_is e edge at = ap (λ (r : RingOf). r.samples) (rings_are.each e edge (slice_get_within flat.tables.edges e edge at) at)

    formatted : (e : ℕ) (f : Format) → e < length flat.tables.edges → edge_format flat.tables e ≡ Some f → All (IsOfFormat f) (ring_at rings e).samples
    formatted e f within format =
        let row = get_inside flat.tables.edges e within in
        let h = laid.formats e row.0 row.1 in
        let same : h.format ≡ f = some_same h.format f (sym h.format_is ∙ format) in
        subst (λ (l : List Raw). All (IsOfFormat f) l) (sym (ring_is e row.0 row.1))
        (all_if (IsOfFormat f) (initial_list flat.tables row.0) (nat_eq (slice_index (clusters_of flat.tables) row.0.writer) cluster)
        (subst (λ g. All (IsOfFormat g) (initial_list flat.tables row.0)) same h.initials))

    pub are_held : AreHeld flat.tables begun
    are_held = record {
      same = rings_are.long;
      held = λ e within.
          let row = get_inside flat.tables.edges e within in
          let l = ap length (ring_is e row.0 row.1) in let h = held_first e row.0 row.1 in
          let w = no_times (done entries 0 (writer_at flat.tables.edges e)) (slice_index (write_rates (net_of flat.tables first.attrs.rows)) e) (nothing_done (writer_at flat.tables.edges e)) in
          let r = no_times (done entries 0 (reader_at flat.tables.edges e)) (slice_index (read_rates (net_of flat.tables first.attrs.rows)) e) (nothing_done (reader_at flat.tables.edges e)) in
          omega (arith, l, h, w, r);
      room = λ e within.
          let row = get_inside flat.tables.edges e within in
          ap (λ (r : RingOf). r.capacity) (rings_are.each e row.0 within row.1);
      formats = formatted;
    }

    -- the rings are the lists of the start
    pub lists_are : (e : ℕ) → e < length flat.tables.edges → (ring_at rings e).samples ≡ slice_index_or (text_start sound.model flat cluster first.attrs.rows).lists e []
    lists_are e within = let row = get_inside flat.tables.edges e within in ring_is e row.0 row.1 ∙ list_is e row.0 row.1
