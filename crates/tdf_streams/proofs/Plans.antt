-- The plan of a cluster as the text says it is that of a record.
use Rattle.std.proofs.Common.{◌≡◌, ◌∙◌, ℕ, suc, ◌+◌, ◌<◌, ◌⊎◌, Bool, true, false, ◌&&◌, Some, if◌then◌else◌, nat_eq, List, [], ◌∷◌, slice_get, slice_index, refl, ap, sym, subst, inl, inr, arith}
use Rattle.std.proofs.lemmas.Bool.{cases_eq, eq-eqb, eqb-true, lt-ltb, ne_eqb}
use Rattle.std.proofs.lemmas.List.Elements.{All-from_recursion}
use Rattle.std.proofs.lemmas.List.Sums.{sum_by-cons}
use Rattle.std.specs.List.{AllByRecursion, cons_option, enumerate_from}
use Rattle.std.specs.Prelude.{cond, count_by, filter_map}
use Rattle.tdf_dynamic_first.proofs.Api.{table_is}
use Rattle.tdf_dynamic_plans.specs.Assignments.{assignments}
use Rattle.tdf_dynamic_plans.specs.Attributes.{AttrsOf, clusters_of}
use Rattle.tdf_dynamic_plans.specs.Faults.{IsTablePlan, pace_in}
use Rattle.tdf_dynamic_plans.specs.Rates.{net_of}
use Rattle.tdf_dynamic_first.specs.Text.{attrs_if, first_attrs, first_table}
use Rattle.tdf_bind_invariants.specs.Below.{Flat, start_rates}
use Rattle.tdf_graph.specs.declared.actors.Edge.{Edge}
use Rattle.tdf_bind_invariants.proofs.Api.{starts_are_allowed}
use Rattle.tdf_bind_invariants.specs.Limits.{AreWithinLimits, limits_in}
use Rattle.tdf_expr_semantics.specs.Fits.{RatesFit}
use Rattle.tdf_schedule.specs.Needs.{IsGrounded, Within, HasKey}
use Rattle.tdf_schedule.specs.Plan.{HasPlan, IsPlan, is_firing, key_in}
use Rattle.tdf_schedule.specs.declared.entry.Entry.{Entry}
use Rattle.tdf_streams.proofs.Edges.{is_plannable}
use Rattle.tdf_streams.proofs.Grounds.{no_pace}
use Rattle.tdf_streams.proofs.Rows.{all_at}
use Rattle.tdf_streams.specs.Laws.{FirstPlanIsRecord, TablePlanIsRecord}
use Rattle.tdf_streams.specs.Periods.{AreAttributes, HasAllowedRates}
use Rattle.tdf_timestep.specs.Period.{IsPeriod}
use Rattle.tdf_bind_connections.specs.declared.modules.ModuleRow.{ModuleRow}

-- one that is counted is there
pub record Counted {X : Type 0} (p : X → Bool) (xs : List X) : Type 0 where
  pub place : ℕ
  pub item : X
  pub at : slice_get xs place ≡ Some item
  pub passes : p item ≡ true

pub some_counted : {X : Type 0} (p : X → Bool) (xs : List X) → 0 < count_by p xs → Counted p xs
some_counted p [] some = absurd (omega (arith, some))
some_counted p (x ∷ xs) some = go (p x) refl (λ none. some_counted p xs (more none))
  where
    weight : Bool → ℕ
    weight b = cond b 1 0

    more : p x ≡ false → 0 < count_by p xs
    more none = let s : count_by p (x ∷ xs) ≡ weight (p x) + count_by p xs = sum_by-cons (λ y. cond (p y) 1 0) x xs in let z : weight (p x) ≡ 0 = ap weight none in omega (arith, some, s, z)

    go : (b : Bool) → p x ≡ b → (p x ≡ false → Counted p xs) → Counted p (x ∷ xs)
    go true is rest = record { place = 0; item = x; at = refl; passes = is }
    go false is rest = (let r = rest is in record { place = suc r.place; item = r.item; at = r.at; passes = r.passes })

both_true : (a b : Bool) → (a && b) ≡ true → (a ≡ true) × (b ≡ true)
both_true true b h = (refl, h)
both_true false b h = absurd (subst (λ c. elim c as (λ _. Type 0) [ true ↦ ⊥ | false ↦ Unit {0} ]) h tt)

module _ (edges : List Edge) (pace : ℕ → ℕ) (counts : List ℕ) (entries : List Entry) (plan : IsPlan edges pace counts entries) where
  -- each firing of a plan is grounded
  pub plan_grounded : (m a : ℕ) → a < slice_index counts m → IsGrounded edges (λ k. 0) m a
  plan_grounded m a below =
      let one : count_by (is_firing m a) entries ≡ 1 = plan.complete m a ∙ ap (λ (b : Bool). if b then 1 else 0) (lt-ltb a (slice_index counts m) below) in
      let at = some_counted (is_firing m a) entries (omega (arith, one)) in
      let is = both_true (nat_eq at.item.actor m) (nat_eq at.item.index a) at.passes in
      let key = all_at (λ (x : Entry). HasKey edges pace x.actor x.index (key_in x)) entries at.place at.item plan.keys at.at in
      let within = no_pace edges pace at.item.level at.item.offset at.item.actor at.item.index key.within in (
        at.item.level,
        0,
        subst (λ n. Within edges (λ k. 0) at.item.level 0 n a) (eqb-true at.item.actor m is.0)
            (subst (λ n. Within edges (λ k. 0) at.item.level 0 at.item.actor n) (eqb-true at.item.index a is.1) within),
      )

-- the rates of the text are within their limits
module _ (flat : Flat) (cluster : ℕ) (limits : AreWithinLimits flat) where
  start_allowed : (n : ℕ) (row : ModuleRow) → slice_get flat.tables.modules n ≡ Some row → HasAllowedRates flat (first_attrs flat n row)
  start_allowed n row at = subst (λ o. RatesFit (limits_in flat.checked o) (start_rates flat.checked row.block)) (sym at) (starts_are_allowed flat.checked limits.checked_is row.block)

  put_allowed : (n : ℕ) (row : ModuleRow) (rest : List AttrsOf) → slice_get flat.tables.modules n ≡ Some row → AllByRecursion (HasAllowedRates flat) rest
      → AllByRecursion (HasAllowedRates flat) (cons_option (attrs_if flat cluster n row) rest)
  put_allowed n row rest at are = go (cases_eq (slice_index (clusters_of flat.tables) n) cluster)
    where
      go : (slice_index (clusters_of flat.tables) n ≡ cluster) ⊎ (slice_index (clusters_of flat.tables) n ≡ cluster → ⊥) → AllByRecursion (HasAllowedRates flat) (cons_option (attrs_if flat cluster n row) rest)
      go (inl inside) = rw (eq-eqb _ _ inside) (start_allowed n row at, are)
      go (inr outside) = rw (ne_eqb _ _ outside) are

  all_allowed : (k : ℕ) (rows : List ModuleRow) → ((j : ℕ) → slice_get flat.tables.modules (k + j) ≡ slice_get rows j)
      → AllByRecursion (HasAllowedRates flat) (filter_map (λ row. attrs_if flat cluster row.0 row.1) (enumerate_from k rows))
  all_allowed k [] same = tt
  all_allowed k (row ∷ rows) same =
      let z : k ≡ k + 0 = omega arith in
      put_allowed k row (filter_map (λ row. attrs_if flat cluster row.0 row.1) (enumerate_from (k + 1) rows)) (ap (slice_get flat.tables.modules) z ∙ same 0)
      (all_allowed (k + 1) rows (λ j. let n : k + 1 + j ≡ k + suc j = omega arith in ap (slice_get flat.tables.modules) n ∙ same (suc j)))

  pub text_attributes : AreAttributes flat cluster (first_table flat cluster)
  unfolding first_table
  text_attributes = record {
    own = table_is flat cluster (is_plannable flat limits);
    allowed = All-from_recursion (HasAllowedRates flat) (filter_map (λ row. attrs_if flat cluster row.0 row.1) (enumerate_from 0 flat.tables.modules))
        (all_allowed 0 flat.tables.modules (λ j. let z : 0 + j ≡ j = omega arith in ap (slice_get flat.tables.modules) z));
  }

pub table_record : TablePlanIsRecord
table_record flat cluster table plan is_new attributes is = record {
  counts = is.counts;
  steps = is.steps;
  record_is = record {
    is = record {
      timed = record {
        attributes = attributes;
        writes_are = refl;
        reads_are = refl;
        counts_are = is.timing.counts_are.counts_are;
        period_is = subst (λ n. IsPeriod (net_of flat.tables table).ports is.counts (assignments table) n) (sym is.plan_is.planned.same) is.timing.steps_are.is;
        long = refl;
        left = λ m. omega arith;
      };
      grounded = plan_grounded (net_of flat.tables table).edges (pace_in (net_of flat.tables table) is.steps) is.counts plan.entries.items is.plan_is.planned.planned;
    };
    whole = refl;
  };
  steps_are = is.timing.steps_are;
  same_period = sym is.plan_is.planned.same;
  plan_is = subst (λ n. HasPlan (net_of flat.tables table).edges (pace_in (net_of flat.tables table) is.steps) is.counts n plan) (sym is.plan_is.planned.same) is.plan_is.planned;
}

pub first_record : FirstPlanIsRecord
first_record flat cluster first limits is = table_record flat cluster first.attrs.rows first.plan true (subst (AreAttributes flat cluster) (sym is.attrs_are) (text_attributes flat cluster limits))
    (subst (λ (table : List AttrsOf). IsTablePlan flat.tables cluster table first.plan) (sym is.attrs_are) is.plan_is)
