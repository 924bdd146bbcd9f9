-- The assignments of a table may be given.
use Rattle.std.proofs.Common.{◌≡◌, ◌∙◌, ℕ, ◌+◌, ◌*◌, ◌<◌, ◌≤◌, zero, suc, List, [], ◌∷◌, ◌++◌, Some, length, sym, ap, map, subst, arith, inl, inr, ◌⊎◌}
use Rattle.std.proofs.Math.ListN.{get_or}
use Rattle.std.proofs.lemmas.Bool.{cases_eq, cases_lt, eq-eqb, ne_eqb}
use Rattle.std.proofs.lemmas.List.{length-map}
use Rattle.std.proofs.lemmas.List.Elements.{All-from_recursion, recursion_from_All}
use Rattle.std.proofs.lemmas.List.Sums.{sum_by-cons}
use Rattle.std.proofs.lemmas.Option.{slice_get-map}
use Rattle.std.specs.List.{AllByRecursion, enumerate_from, cons_option, flat_map}
use Rattle.std.specs.Option.{option_map}
use Rattle.std.specs.Prelude.{All, slice_get, filter_map, sum}
use Rattle.tdf_balance.specs.Balance.{HasCounts}
use Rattle.tdf_base.specs.Limits.{time_end, most_firings}
use Rattle.tdf_bind_tables.specs.Actors.{cluster_of}
use Rattle.tdf_bind_tables.specs.FlatTables.{FlatTablesOf}
use Rattle.tdf_dynamic_plans.specs.Assignments.{port_at, assign_at, assigned_by, assignments}
use Rattle.tdf_dynamic_plans.specs.Attributes.{AttrsOf, clusters_of, number_if, ports_of_module, IsOfCluster}
use Rattle.tdf_dynamic_plans.specs.Rates.{rated_port, net_ports}
use Rattle.tdf_graph.specs.Counts.{AreCounts}
use Rattle.tdf_graph.specs.declared.actors.Edge.{Edge}
use Rattle.tdf_graph.specs.declared.actors.Port.{Port}
use Rattle.tdf_schedule.specs.Plan.{IsPaced}
use Rattle.tdf_timestep.specs.Period.{IsAssigned, IsPortOf, HasSteps}
use Rattle.tdf_timestep.specs.declared.assign.Assign.{Assign}
use Rattle.tdf_timestep.specs.declared.assign.Steps.{Steps}
use Rattle.tdf_bind_connections.specs.declared.modules.PortRow.{PortRow}

-- the ports of a module
module _ (all : List PortRow) («module» : ℕ) where
  abbrev IsOwn : ℕ → Type 0
  IsOwn p = (row : PortRow) × (slice_get all p ≡ Some row) × (row.«module» ≡ «module»)

  put_one : (k : ℕ) (row : PortRow) (rest : List ℕ) → slice_get all k ≡ Some row → AllByRecursion IsOwn rest → AllByRecursion IsOwn (cons_option (number_if «module» k row) rest)
  put_one k row rest is are = go (cases_eq row.«module» «module»)
    where
      go : (row.«module» ≡ «module») ⊎ (row.«module» ≡ «module» → ⊥) → AllByRecursion IsOwn (cons_option (number_if «module» k row) rest)
      go (inl same) = rw (eq-eqb _ _ same) ((row, is, same), are)
      go (inr other) = rw (ne_eqb _ _ other) are

  own_from : (k : ℕ) (rows : List PortRow) → ((j : ℕ) → slice_get all (k + j) ≡ slice_get rows j)
      → AllByRecursion IsOwn (filter_map (λ port. number_if «module» port.0 port.1) (enumerate_from k rows))
  own_from k [] same = tt
  own_from k (row ∷ rows) same = put_one k row (filter_map (λ port. number_if «module» port.0 port.1) (enumerate_from (k + 1) rows))
      (ap (slice_get all) (omega arith) ∙ same 0) (own_from (k + 1) rows (λ j. ap (slice_get all) (omega arith) ∙ same (suc j)))

  own_ports : AllByRecursion IsOwn (ports_of_module all «module»)
  own_ports = own_from 0 all (λ j. ap (slice_get all) (omega arith))

own_at : (all : List PortRow) («module» : ℕ) (ps : List ℕ) (i : ℕ) (table : List AttrsOf) → AllByRecursion (IsOwn all «module») ps
    → IsPortOf (map (rated_port table) all) «module» (slice_get ps i)
own_at all «module» [] i table own = tt
own_at all «module» (p ∷ ps) zero table own =
    (rated_port table own.0.0, slice_get-map (rated_port table) all p ∙ ap (option_map (rated_port table)) own.0.1, own.0.2)
own_at all «module» (p ∷ ps) (suc i) table own = own_at all «module» ps i table own.1

both : {X : Type 0} (P : X → Type 0) (xs ys : List X) → AllByRecursion P xs → AllByRecursion P ys → AllByRecursion P (xs ++ ys)
both P [] ys h k = k
both P (x ∷ xs) ys h k = (h.0, both P xs ys h.1 k)

module _ (tables : FlatTablesOf) (cluster : ℕ) (table : List AttrsOf) (edges : List Edge) (counts : List ℕ) (has : AreCounts edges (clusters_of tables) cluster counts)
    (few : length tables.modules ≤ length tables.actors) where
  abbrev IsGiven : Assign → Type 0
  IsGiven = IsAssigned (map (rated_port table) tables.ports) counts

  module _ (attrs : AttrsOf) (of : IsOfCluster tables cluster attrs) where
    fires : 0 < get_or counts attrs.number 0
    fires = has.positive attrs.number
        (let m = of.is_module in let e = length-map tables.actors cluster_of in omega (arith, m, few, e)) of.inside

    own_port : (place : ℕ) → IsPortOf (map (rated_port table) tables.ports) attrs.number (port_at attrs.ports place)
    own_port zero = tt
    own_port (suc i) = own_at tables.ports attrs.number attrs.ports i table
        (subst (AllByRecursion (IsOwn tables.ports attrs.number)) (sym of.own) (own_ports tables.ports attrs.number))

    assign_one : (place step : ℕ) (rest : List Assign) → step < time_end → AllByRecursion IsGiven rest → AllByRecursion IsGiven (cons_option (assign_at attrs place step) rest)
    assign_one place step rest short are = go (cases_eq step 0)
      where
        go : (step ≡ 0) ⊎ (step ≡ 0 → ⊥) → AllByRecursion IsGiven (cons_option (assign_at attrs place step) rest)
        go (inl none) = rw (eq-eqb _ _ none) are
        go (inr some) = rw (ne_eqb _ _ some) (record { spot = record { fires = fires; own = own_port place }; some = omega (arith, some); short = short }, are)

    assigned_from : (k : ℕ) (steps : List ℕ) → AllByRecursion (λ s. s < time_end) steps → AllByRecursion IsGiven (filter_map (λ step. assign_at attrs step.0 step.1) (enumerate_from k steps))
    assigned_from k [] short = tt
    assigned_from k (step ∷ steps) short = assign_one k step (filter_map (λ step. assign_at attrs step.0 step.1) (enumerate_from (k + 1) steps)) short.0 (assigned_from (k + 1) steps short.1)

  assigned_all : (list : List AttrsOf) → AllByRecursion (IsOfCluster tables cluster) list → AllByRecursion IsGiven (flat_map assigned_by list)
  assigned_all [] are = tt
  assigned_all (attrs ∷ list) are = both IsGiven (assigned_by attrs) (flat_map assigned_by list)
      (assigned_from attrs are.0 0 attrs.steps (recursion_from_All (λ s. s < time_end) attrs.steps are.0.short)) (assigned_all list are.1)

pub assigned_fit : (tables : FlatTablesOf) (cluster : ℕ) (table : List AttrsOf) (edges : List Edge) (counts : List ℕ) → AreCounts edges (clusters_of tables) cluster counts
    → length tables.modules ≤ length tables.actors → All (IsOfCluster tables cluster) table → All (IsAssigned (net_ports tables table) counts) (assignments table)
unfolding net_ports assignments
assigned_fit tables cluster table edges counts has few are = All-from_recursion (IsAssigned (map (rated_port table) tables.ports) counts) (flat_map assigned_by table)
    (assigned_all tables cluster table edges counts has few table (recursion_from_All (IsOfCluster tables cluster) table are))

-- counts and steps give a pace
few_by : (most : ℕ) (counts : List ℕ) → sum counts ≤ most → AllByRecursion (λ q. q ≤ most) counts
few_by most [] few = tt
few_by most (q ∷ counts) few =
    let e = sum_by-cons (λ x. x) q counts in
    (omega (arith, few, e), few_by most counts (omega (arith, few, e)))

pub each_few : (counts : List ℕ) → sum counts ≤ most_firings → All (λ q. q ≤ most_firings) counts
each_few counts few = All-from_recursion (λ q. q ≤ most_firings) counts (few_by most_firings counts few)

pub is_paced : (edges : List Edge) (ports : List Port) (clusters : List ℕ) (cluster : ℕ) (counts : List ℕ) (assigned : List Assign) (steps : Steps)
    → HasCounts edges clusters cluster counts → HasSteps ports counts assigned steps → IsPaced edges counts steps.actor_steps.items
is_paced edges ports clusters cluster counts assigned steps has are = record {
  balanced = has.counts_are.balanced;
  few = has.few;
  long = are.long;
  short = λ m. go m (cases_lt 0 (get_or counts m 0));
}
  where
    turned : (a b p : ℕ) → a * b ≡ p → p < time_end → b * a < time_end
    turned a b p e h = subst (λ n. n < time_end) (sym e ∙ grind arith) h

    nothing : (q s : ℕ) → q ≤ 0 → q * s < time_end
    nothing q s e = subst (λ n. n * s < time_end) {x = 0} (omega (arith, e)) (omega arith)

    go : (m : ℕ) → (0 < get_or counts m 0) ⊎ (get_or counts m 0 ≤ 0) → get_or counts m 0 * get_or steps.actor_steps.items m 0 < time_end
    go m (inl some) = turned (get_or steps.actor_steps.items m 0) (get_or counts m 0) steps.period (are.firing m some) are.is.short
    go m (inr none) = nothing (get_or counts m 0) (get_or steps.actor_steps.items m 0) none
