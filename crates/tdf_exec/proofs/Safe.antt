-- Along the plan of its table a cluster is safe.
use Rattle.std.proofs.Common.{◌≡◌, ◌∙◌, ◌≢◌, ℕ, zero, suc, ◌+◌, ◌*◌, ◌<◌, ◌≤◌, Bool, true, false, List, [], ◌∷◌, Some, length, take, nat_eq, refl, sym, ap, subst, inl, inr, arith, if◌then◌else◌}
use Rattle.std.proofs.lemmas.Bool.{cases_eq, cases_lt, ne_eqb}
use Rattle.std.proofs.lemmas.List.{get_or_past, length-map}
use Rattle.std.proofs.lemmas.List.Sums.{sum_by-cons}
use Rattle.std.specs.List.{count_by}
use Rattle.std.specs.Prelude.{cond, slice_get, slice_index}
use Rattle.tdf_dynamic_plans.specs.Attributes.{AttrsOf, clusters_of}
use Rattle.tdf_dynamic_plans.specs.Faults.{pace_in}
use Rattle.tdf_dynamic_plans.specs.Rates.{net_of}
use Rattle.tdf_exec.specs.Cluster.{ClusterOf}
use Rattle.tdf_exec.specs.Laws.{HeadsHold, PlansAreSafe}
use Rattle.tdf_exec.specs.Made.{IsClusterSafe}
use Rattle.tdf_bind.specs.declared.model.Flat.{Flat}
use Rattle.tdf_bind_invariants.specs.Limits.{AreWithinLimits}
use Rattle.tdf_schedule.specs.Laws.{PlansArePresent}
use Rattle.tdf_schedule.specs.Plan.{done}
use Rattle.tdf_schedule.specs.declared.entry.Entry.{Entry}
use Rattle.tdf_schedule.specs.declared.entry.Plan.{Plan}
use Rattle.tdf_streams.proofs.Api.{active_inside, bound_at, entry_active, present_at, record_present, table_record}
use Rattle.tdf_streams.specs.Laws.{HasRecord}
use Rattle.tdf_streams.specs.Periods.{AreAttributes, IsTimedRecord, PeriodRecord, period_record}
use Rattle.tdf_streams.specs.Places.{reader_at, writer_at}
use Rattle.tdf_streams.specs.Starts.{held_at_head, initial_of_row}

count_none : {A : Type 0} (p : A → Bool) (xs : List A) → ((j : ℕ) (x : A) → slice_get xs j ≡ Some x → p x ≡ false) → count_by p xs ≡ 0
count_none p [] none = refl
count_none p (x ∷ xs) none =
    let a = sum_by-cons (λ z. cond {A = ℕ} (p z) 1 0) x xs in
    let b : cond {A = ℕ} (p x) 1 0 ≡ 0 = ap (λ (o : Bool). cond {A = ℕ} o 1 0) (none 0 x refl) in
    let r = count_none p xs (λ j y at. none (suc j) y at) in
    omega (arith, a, b, r)

get_take : {A : Type 0} (n : ℕ) (xs : List A) (j : ℕ) (x : A) → slice_get (take n xs) j ≡ Some x → slice_get xs j ≡ Some x
get_take zero xs j x at = absurd (none j at)
  where
    none : (j : ℕ) → slice_get (take 0 xs) j ≡ Some x → ⊥
    none j e = cc
get_take (suc n) [] j x at = at
get_take (suc n) (y ∷ xs) zero x at = at
get_take (suc n) (y ∷ xs) (suc j) x at = get_take n xs j x at

-- an actor that no entry is of fires at no place
done_none : (entries : List Entry) (i m : ℕ) → ((j : ℕ) (x : Entry) → slice_get entries j ≡ Some x → x.actor ≢ m) → done entries i m ≡ 0
unfolding done
done_none entries i m none = count_none (λ (x : Entry). nat_eq x.actor m) (take i entries) (λ j x at. ne_eqb _ _ (none j x (get_take i entries j x at)))

module _ (law : PlansArePresent) (flat : Flat) (limits : AreWithinLimits flat) (number : ℕ) (table : List AttrsOf) (attributes : AreAttributes flat number table) (plan : Plan)
    (has : HasRecord flat number table plan true) where
  abbrev p : PeriodRecord
  p = period_record flat.tables table has.counts plan.period true

  abbrev entries : List Entry
  entries = plan.entries.items

  timed : IsTimedRecord flat number p
  timed = has.record_is.is.timed

  active : (i : ℕ) (x : Entry) → slice_get entries i ≡ Some x → x.index < slice_index has.counts x.actor
  active i x at = entry_active (net_of flat.tables table).edges (pace_in (net_of flat.tables table) has.steps) has.counts entries has.plan_is.planned i x at

  own_actor : (i : ℕ) (x : Entry) → slice_get entries i ≡ Some x → slice_index (clusters_of flat.tables) x.actor ≡ number
  own_actor i x at = active_inside flat number p timed x.actor x.index (active i x at)

  inside_actors : (i : ℕ) (x : Entry) → slice_get entries i ≡ Some x → x.actor < length flat.tables.actors
  inside_actors i x at = elim (cases_lt x.actor (length flat.tables.actors)) [
    | inl below ↦ below
    | inr past ↦ absurd (
        let l : length has.counts ≡ length flat.tables.actors = timed.counts_are.long ∙ length-map _ _ in
        let z : slice_index has.counts x.actor ≡ 0 = get_or_past has.counts x.actor 0 (subst (λ n. n ≤ x.actor) (sym l) past) in
        let a = active i x at in
        omega (arith, z, a))
  ]

  never_read : (e : ℕ) → (i m : ℕ) → slice_index (clusters_of flat.tables) m ≢ number → done entries i m ≡ 0
  never_read e i m away = done_none entries i m (λ j x at same. away (ap (slice_index (clusters_of flat.tables)) (sym same) ∙ own_actor j x at))

  bounded : (i e : ℕ) → i ≤ length entries → e < length flat.tables.edges
      → held_at_head flat.tables number e + done entries i (writer_at flat.tables.edges e) * slice_index p.writes e
      ≤ slice_index plan.bounds.items e + done entries i (reader_at flat.tables.edges e) * slice_index p.reads e
  bounded i e below within = elim (cases_eq (slice_index (clusters_of flat.tables) (writer_at flat.tables.edges e)) number) [
    | inl own ↦ (
        let b = bound_at flat number limits p timed (pace_in (net_of flat.tables table) has.steps) plan has.plan_is i below e within own in
        omega (arith, b))
    | inr away ↦ (
        let h : held_at_head flat.tables number e ≡ 0 = ap (λ (b : Bool). if b then initial_of_row (slice_get flat.tables.edges e) else 0) (ne_eqb _ _ away) in
        let d : done entries i (writer_at flat.tables.edges e) * slice_index p.writes e ≡ 0 * slice_index p.writes e = ap (λ n. n * slice_index p.writes e) (never_read e i (writer_at flat.tables.edges e) away) in
        omega (arith, h, d))
  ]

  pub safe_now : (c : ClusterOf) → c.number ≡ number → c.entries ≡ entries → c.bounds ≡ plan.bounds.items → c.reads ≡ p.reads → c.writes ≡ p.writes → IsClusterSafe flat.tables c
  safe_now c n_is e_is b_is r_is w_is = record {
    inside = λ i x at. inside_actors i x (ap (λ l. slice_get l i) (sym e_is) ∙ at);
    own = λ i x at. own_actor i x (ap (λ l. slice_get l i) (sym e_is) ∙ at) ∙ sym n_is;
    present = λ i e x at within reads.
        rw (n_is, e_is, r_is, w_is) (present_at flat number limits p timed entries
        (record_present flat number limits p timed law (pace_in (net_of flat.tables table) has.steps) entries has.plan_is.planned)
        i x (ap (λ l. slice_get l i) (sym e_is) ∙ at) (own_actor i x (ap (λ l. slice_get l i) (sym e_is) ∙ at)) e within reads);
    bounded = λ i e below within.
        rw (n_is, e_is, r_is, w_is, b_is) (bounded i e (subst (λ (l : List Entry). i ≤ length l) e_is below) within);
  }

pub plans_safe : PlansArePresent → PlansAreSafe
plans_safe law flat c limits attributes planned reads_are writes_are =
    safe_now law flat limits c.number c.table attributes planned.plan (table_record flat c.number c.table planned.plan true attributes planned.plan_is)
    c refl (sym planned.entries_are) (sym planned.bounds_are) reads_are writes_are

start_none : (entries : List Entry) (m : ℕ) → done entries 0 m ≡ 0
unfolding done
start_none entries m = refl

pub heads_hold : HeadsHold
heads_hold flat c e head long =
    let r : done c.entries c.place (reader_at flat.tables.edges e) * slice_index c.reads e ≡ 0 * slice_index c.reads e = ap (λ n. n * slice_index c.reads e) (none (reader_at flat.tables.edges e)) in
    let w : done c.entries c.place (writer_at flat.tables.edges e) * slice_index c.writes e ≡ 0 * slice_index c.writes e = ap (λ n. n * slice_index c.writes e) (none (writer_at flat.tables.edges e)) in
    omega (arith, r, w, long)
  where
    none : (m : ℕ) → done c.entries c.place m ≡ 0
    none m = ap (λ i. done c.entries i m) head ∙ start_none c.entries m
