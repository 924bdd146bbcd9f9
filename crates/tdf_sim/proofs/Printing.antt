-- Plans of a model, printed.
use Rattle.std.proofs.Common.{◌≡◌, ◌∙◌, ℕ, zero, suc, ◌+◌, ◌<◌, ◌≤◌, Bool, true, ◌⊎◌, List, [], ◌∷◌, Some, length, map, cond, if◌then◌else◌, refl, sym, ap, inl, inr, arith}
use Rattle.std.proofs.Math.ListN.{get_or}
use Rattle.std.proofs.lemmas.Bool.{cases_lt, eq-eqb, le-ltb}
use Rattle.std.proofs.lemmas.List.{length-map}
use Rattle.std.proofs.lemmas.List.Sums.{sum_by-cons}
use Rattle.std.proofs.lemmas.Option.{slice_get-map}
use Rattle.std.specs.List.{count_by}
use Rattle.std.specs.Option.{option_map}
use Rattle.std.specs.Prelude.{slice_get, slice_index}
use Rattle.tdf_bind_tables.specs.FlatTables.{FlatTablesOf}
use Rattle.tdf_dynamic_plans.specs.Attributes.{AttrsOf}
use Rattle.tdf_dynamic_first.specs.First.{IsFirstPlan}
use Rattle.tdf_dynamic_plans.specs.Rates.{net_of}
use Rattle.tdf_dynamic_first.specs.Text.{first_table}
use Rattle.tdf_dynamic_first.specs.declared.first.First.{First}
use Rattle.tdf_bind.specs.declared.model.Flat.{Flat}
use Rattle.tdf_schedule.specs.Plan.{is_firing}
use Rattle.tdf_schedule.specs.declared.entry.Entry.{Entry}
use Rattle.tdf_sim.specs.PlanText.{cluster_text, plan_rows}

-- the text of the plan at a place
abbrev pub text_at : Flat → List First → ℕ → List ℕ
text_at flat firsts k = cluster_text flat.resolution flat.tables (k + 1) (slice_get (map plan_rows firsts) k)

pub text_is : (flat : Flat) (firsts : List First) (k : ℕ) (first : First) → slice_get firsts k ≡ Some first
    → cluster_text flat.resolution flat.tables (k + 1) (Some (plan_rows first)) ≡ text_at flat firsts k
text_is flat firsts k first is =
    ap (cluster_text flat.resolution flat.tables (k + 1)) (sym (slice_get-map plan_rows firsts k ∙ ap (option_map plan_rows) is))

-- a plan has a bound for each edge
edges_same : (tables : FlatTablesOf) (table : List AttrsOf) → length (net_of tables table).edges ≡ length tables.edges
unfolding net_of
edges_same tables table = length-map tables.edges _

pub bounds_fit : (flat : Flat) (cluster : ℕ) (first : First) → IsFirstPlan flat cluster first → length first.plan.bounds.items ≡ length flat.tables.edges
bounds_fit flat cluster first is = is.plan_is.plan_is.planned.long ∙ edges_same flat.tables (first_table flat cluster)

-- the entries of a plan are firings of actors
counted : (p : Entry → Bool) (xs : List Entry) (k : ℕ) (d : Entry) → k < length xs → p (get_or xs k d) ≡ true → 0 < count_by p xs
counted p [] k d less is = absurd (omega (arith, less))
counted p (x ∷ xs) zero d less is =
    let e = sum_by-cons (λ (y : Entry). cond (p y) 1 0) x xs in
    let f : cond {A = ℕ} (p x) 1 0 ≡ 1 = ap (λ b. cond {A = ℕ} b 1 0) is in omega (arith, e, f)
counted p (x ∷ xs) (suc k) d less is =
    let e = sum_by-cons (λ (y : Entry). cond (p y) 1 0) x xs in
    let rest = counted p xs k d (omega (arith, less)) is in omega (arith, e, rest)

is_own : (x : Entry) → is_firing x.actor x.index x ≡ true
is_own x = rw (eq-eqb x.actor x.actor refl, eq-eqb x.index x.index refl) refl

below : (counts : List ℕ) (m a : ℕ) → a < slice_index counts m → m < length counts
below [] m a less = absurd (omega (arith, less))
below (x ∷ counts) zero a less = omega arith
below (x ∷ counts) (suc m) a less = let h = below counts m a less in omega (arith, h)

pub actors_fit : (flat : Flat) (cluster : ℕ) (first : First) → IsFirstPlan flat cluster first → (k : ℕ) (d : Entry) → k < length first.plan.entries.items
    → (get_or first.plan.entries.items k d).actor < length flat.tables.actors
actors_fit flat cluster first is k d less =
    let x = get_or first.plan.entries.items k d in
    let many = counted (is_firing (get_or first.plan.entries.items k d).actor (get_or first.plan.entries.items k d).index) first.plan.entries.items k d less (is_own (get_or first.plan.entries.items k d)) in
    let long : length is.plan_is.counts ≡ length flat.tables.actors = is.plan_is.timing.counts_are.counts_are.long ∙ length-map flat.tables.actors _ in
    go (cases_lt (get_or first.plan.entries.items k d).index (slice_index is.plan_is.counts (get_or first.plan.entries.items k d).actor)) many long
  where
    go : ((get_or first.plan.entries.items k d).index < slice_index is.plan_is.counts (get_or first.plan.entries.items k d).actor)
        ⊎ (slice_index is.plan_is.counts (get_or first.plan.entries.items k d).actor ≤ (get_or first.plan.entries.items k d).index)
        → 0 < count_by (is_firing (get_or first.plan.entries.items k d).actor (get_or first.plan.entries.items k d).index) first.plan.entries.items
        → length is.plan_is.counts ≡ length flat.tables.actors → (get_or first.plan.entries.items k d).actor < length flat.tables.actors
    go (inl low) many long = let h = below is.plan_is.counts (get_or first.plan.entries.items k d).actor (get_or first.plan.entries.items k d).index low in omega (arith, h, long)
    go (inr high) many long =
        let none = is.plan_is.plan_is.planned.planned.complete (get_or first.plan.entries.items k d).actor (get_or first.plan.entries.items k d).index
        ∙ ap (λ b. if b then 1 else 0) (le-ltb _ _ high) in
        absurd (omega (arith, none, many))
