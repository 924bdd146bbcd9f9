-- The edges that a plan gives room are those of its cluster.
use Rattle.std.proofs.Common.{◌≡◌, ◌∙◌, ◌≢◌, ℕ, zero, suc, ◌+◌, ◌<◌, ◌≤◌, Bool, true, false, ◌&&◌, List, [], ◌∷◌, Some, length, nat_eq, nat_lt, option_map, slice_get, slice_index, refl, sym, ap, inl, inr, arith, if◌then◌else◌}
use Rattle.std.proofs.lemmas.Bool.{cases_eq, eq-eqb, eqb-true, le-ltb, lt-ltb, ne_eqb}
use Rattle.std.proofs.lemmas.List.{length-map}
use Rattle.std.proofs.lemmas.List.Sums.{sum_by-cons}
use Rattle.std.proofs.lemmas.Option.{slice_get-map, slice_get_within}
use Rattle.std.specs.List.{count_by, filter, range_with_len}
use Rattle.std.specs.Prelude.{cond}
use Rattle.tdf_bind.specs.declared.model.Flat.{Flat}
use Rattle.tdf_bind_connections.specs.declared.edges.EdgeRow.{EdgeRow}
use Rattle.tdf_bind_invariants.specs.Limits.{AreWithinLimits}
use Rattle.tdf_bind_tables.specs.Actors.{cluster_of}
use Rattle.tdf_dynamic_plans.specs.Attributes.{AttrsOf, clusters_of}
use Rattle.tdf_dynamic_plans.specs.Faults.{pace_in}
use Rattle.tdf_dynamic_plans.specs.Rates.{net_of, net_ports, rated_edge}
use Rattle.tdf_exec.proofs.Rows.{all_at}
use Rattle.tdf_exec.specs.Laws.{RoomIsForOwn}
use Rattle.tdf_exec.specs.Saved.{edges_with_room}
use Rattle.tdf_schedule.specs.Laws.{PlansArePresent}
use Rattle.tdf_schedule.specs.Plan.{is_firing}
use Rattle.tdf_schedule.specs.declared.entry.Entry.{Entry}
use Rattle.tdf_schedule.specs.declared.entry.Plan.{Plan}
use Rattle.tdf_streams.proofs.Api.{bound_at, get_inside, one_cluster, present_at, rates_positive, record_present, table_record}
use Rattle.tdf_streams.specs.Laws.{HasRecord}
use Rattle.tdf_streams.specs.Periods.{IsTimedRecord, PeriodRecord, period_record}
use Rattle.tdf_streams.specs.Places.{is_own, reader_at, reader_of_row, writer_at, writer_of_row}

-- one that is counted is there
counted : {X : Type 0} (p : X → Bool) (xs : List X) → 0 < count_by p xs → (i : ℕ) × (x : X) × (slice_get xs i ≡ Some x) × (p x ≡ true)
counted p [] some = absurd (omega (arith, some))
counted {X} p (x ∷ xs) some = go (p x) refl (λ none. counted p xs (more none))
  where
    weight : Bool → ℕ
    weight b = cond b 1 0

    more : p x ≡ false → 0 < count_by p xs
    more none = let s : count_by p (x ∷ xs) ≡ weight (p x) + count_by p xs = sum_by-cons (λ y. cond (p y) 1 0) x xs in let z : weight (p x) ≡ 0 = ap weight none in omega (arith, some, s, z)

    go : (b : Bool) → p x ≡ b → (p x ≡ false → (i : ℕ) × (y : X) × (slice_get xs i ≡ Some y) × (p y ≡ true)) → (i : ℕ) × (y : X) × (slice_get (x ∷ xs) i ≡ Some y) × (p y ≡ true)
    go true is rest = (0, x, refl, is)
    go false is rest = (let r = rest is in (suc r.0, r.1, r.2, r.3))

front_true : (a b : Bool) → (a && b) ≡ true → a ≡ true
front_true true b h = refl
front_true false b h = h

module _ (law : PlansArePresent) (flat : Flat) (limits : AreWithinLimits flat) (number : ℕ) (table : List AttrsOf) (plan : Plan) (has : HasRecord flat number table plan true) where
  abbrev p : PeriodRecord
  p = period_record flat.tables table has.counts plan.period true

  timed : IsTimedRecord flat number p
  timed = has.record_is.is.timed

  -- an edge of the cluster: its reader fires, and reads a sample at least
  module _ (e : ℕ) (within : e < length flat.tables.edges) (own : slice_index (clusters_of flat.tables) (writer_at flat.tables.edges e) ≡ number) where
    abbrev m : ℕ
    m = reader_at flat.tables.edges e

    row : (r : EdgeRow) × (slice_get flat.tables.edges e ≡ Some r)
    row = get_inside flat.tables.edges e within

    reader_own : slice_index (clusters_of flat.tables) m ≡ number
    reader_own = ap (λ o. slice_index (clusters_of flat.tables) (reader_of_row o)) row.1 ∙ sym (one_cluster flat limits e row.0 row.1)
        ∙ ap (λ o. slice_index (clusters_of flat.tables) (writer_of_row o)) (sym row.1) ∙ own

    reader_there : m < length (clusters_of flat.tables)
    reader_there =
        let l : length (clusters_of flat.tables) ≡ length flat.tables.actors = length-map flat.tables.actors cluster_of in
        let r : m ≡ row.0.reader = ap reader_of_row row.1 in
        let i = all_at (λ (x : EdgeRow). x.reader < length flat.tables.actors) flat.tables.edges e row.0 limits.in_range.edge_readers row.1 in
        omega (arith, l, r, i)

    firing : (i : ℕ) × (x : Entry) × (slice_get plan.entries.items i ≡ Some x) × (is_firing m 0 x ≡ true)
    firing = counted (is_firing m 0) plan.entries.items (let one : count_by (is_firing m 0) plan.entries.items ≡ 1 = has.plan_is.planned.complete m 0
        ∙ ap (λ (b : Bool). if b then 1 else 0) (lt-ltb 0 (slice_index has.counts m) (timed.counts_are.positive m reader_there reader_own)) in omega (arith, one))

    at_reader : m ≡ firing.1.actor
    at_reader = sym (eqb-true firing.1.actor m (front_true (nat_eq firing.1.actor m) (nat_eq firing.1.index 0) firing.3))

    pub own_has_room : 0 < slice_index plan.bounds.items e
    own_has_room =
        let here = present_at flat number limits p timed plan.entries.items (record_present flat number limits p timed law (pace_in (net_of flat.tables table) has.steps) plan.entries.items has.plan_is.planned)
        firing.0 firing.1 firing.2 (ap (slice_index (clusters_of flat.tables)) (sym at_reader) ∙ reader_own) e within at_reader in
        let below = slice_get_within plan.entries.items firing.0 firing.1 firing.2 in
        let bound = bound_at flat number limits p timed (pace_in (net_of flat.tables table) has.steps) plan has.plan_is firing.0 (omega (arith, below)) e within own in
        let some = rates_positive limits.checked_is.model flat number (record { lists = []; cells = [] }) limits p timed e within in
        let one = some.1 in omega (arith, here, bound, one)

  -- an edge of another cluster
  net_at : (e : ℕ) (row : EdgeRow) → slice_get flat.tables.edges e ≡ Some row → slice_get (net_of flat.tables table).edges e ≡ Some (rated_edge flat.tables.ports (net_ports flat.tables table) row)
  unfolding net_of
  net_at e edge at = slice_get-map (rated_edge flat.tables.ports (net_ports flat.tables table)) flat.tables.edges e ∙ ap (option_map (rated_edge flat.tables.ports (net_ports flat.tables table))) at

  other_has_none : (e : ℕ) → e < length flat.tables.edges → slice_index (clusters_of flat.tables) (writer_at flat.tables.edges e) ≢ number → slice_index plan.bounds.items e ≡ 0
  other_has_none e within away =
      let row = get_inside flat.tables.edges e within in
      has.plan_is.outside e (rated_edge flat.tables.ports (net_ports flat.tables table) row.0) (net_at e row.0 row.1)
      (timed.counts_are.outside row.0.writer (λ q. away (ap (λ o. slice_index (clusters_of flat.tables) (writer_of_row o)) row.1 ∙ q)))

  room_own : (e : ℕ) → e < length flat.tables.edges → nat_lt 0 (slice_index plan.bounds.items e) ≡ is_own flat.tables number e
  room_own e within = elim (cases_eq (slice_index (clusters_of flat.tables) (writer_at flat.tables.edges e)) number) [
    | inl own ↦ lt-ltb 0 (slice_index plan.bounds.items e) (own_has_room e within own) ∙ sym (eq-eqb _ _ own)
    | inr away ↦ le-ltb 0 (slice_index plan.bounds.items e) (let z = other_has_none e within away in omega (arith, z)) ∙ sym (ne_eqb _ _ away)
  ]

-- tests that are alike on a range leave the same of it
filter_range : (p q : ℕ → Bool) (a n : ℕ) → ((e : ℕ) → a ≤ e → e < a + n → p e ≡ q e) → filter p (range_with_len a n) ≡ filter q (range_with_len a n)
filter_range p q a zero alike = refl
filter_range p q a (suc n) alike =
    ap (λ (b : Bool). cond b (a ∷ filter p (range_with_len (a + 1) n)) (filter p (range_with_len (a + 1) n))) (alike a (omega arith) (omega arith))
    ∙ ap (λ (l : List ℕ). cond (q a) (a ∷ l) l) (filter_range p q (a + 1) n (λ e low high. alike e (omega (arith, low)) (omega (arith, high))))

pub room_is_own : PlansArePresent → RoomIsForOwn
room_is_own law flat c limits of =
    let has = table_record flat c.number c.table of.planned.plan true of.attributes of.planned.plan_is in
    ap (λ (l : List ℕ). edges_with_room l (length c.rings)) (sym of.planned.bounds_are)
    ∙ ap (λ n. edges_with_room of.planned.plan.bounds.items n) of.held.same
    ∙ filter_range (λ e. nat_lt 0 (slice_index of.planned.plan.bounds.items e)) (is_own flat.tables c.number) 0 (length flat.tables.edges)
    (λ e low high. room_own law flat limits c.number c.table of.planned.plan has e (omega (arith, high)))
