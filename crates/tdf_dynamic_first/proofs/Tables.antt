-- The table of the text is a table of its cluster, and has the rates of the text.
use Rattle.std.proofs.Common.{◌≡◌, ◌∙◌, ℕ, ◌+◌, ◌<◌, ◌≤◌, zero, suc, List, [], ◌∷◌, Option, Some, None, length, refl, sym, ap, map, subst, arith, inl, inr, ◌⊎◌}
use Rattle.std.proofs.lemmas.Bool.{cases_eq, eq-eqb, ne_eqb}
use Rattle.std.proofs.lemmas.List.{length-map}
use Rattle.std.proofs.lemmas.List.Elements.{All-from_recursion, recursion_from_All}
use Rattle.std.specs.List.{AllByRecursion, enumerate_from, cons_option}
use Rattle.std.specs.Prelude.{All, slice_get, slice_index, filter_map, IfSome}
use Rattle.tdf_base.specs.Limits.{time_end}
use Rattle.tdf_dynamic_plans.specs.Attributes.{AttrsOf, clusters_of, ports_of_module, IsOfCluster, attrs_at}
use Rattle.tdf_dynamic_first.specs.Text.{step_or_none, port_step, first_attrs, attrs_if, first_table}
use Rattle.tdf_dynamic_first.specs.First.{values_of, text_rate, HasRatesInRange, IsPlannable}
use Rattle.tdf_dynamic_plans.specs.Rates.{times_value, rate_by, port_rate, AreRates}
use Rattle.tdf_bind.specs.declared.model.Flat.{Flat}
use Rattle.tdf_graph.specs.Ranges.{IsRate}
use Rattle.tdf_bind_connections.specs.declared.modules.ModuleRow.{ModuleRow}
use Rattle.tdf_bind_connections.specs.declared.modules.PortRow.{PortRow}

-- the timesteps of ports
step_short : (rows : List PortRow) (p : ℕ) → AllByRecursion (λ (r : PortRow). r.step < time_end) rows → step_or_none (slice_get rows p) < time_end
step_short [] p short = omega arith
step_short (r ∷ rows) zero short = short.0
step_short (r ∷ rows) (suc p) short = step_short rows p short.1

steps_short : (rows : List PortRow) (ps : List ℕ) → AllByRecursion (λ (r : PortRow). r.step < time_end) rows → AllByRecursion (λ s. s < time_end) (map (port_step rows) ps)
steps_short rows [] short = tt
steps_short rows (p ∷ ps) short = (step_short rows p short, steps_short rows ps short)

module _ (flat : Flat) (cluster : ℕ) (plannable : IsPlannable flat) where
  of_cluster : (n : ℕ) (row : ModuleRow) → n < length flat.tables.modules → row.step < time_end → slice_index (clusters_of flat.tables) n ≡ cluster → IsOfCluster flat.tables cluster (first_attrs flat n row)
  of_cluster n row within short inside = record {
    is_module = within;
    inside = inside;
    own = refl;
    each = let e = length-map (ports_of_module flat.tables.ports n) (port_step flat.tables.ports) in omega (arith, e);
    short = All-from_recursion (λ s. s < time_end) (row.step ∷ map (port_step flat.tables.ports) (ports_of_module flat.tables.ports n))
        (short, steps_short flat.tables.ports (ports_of_module flat.tables.ports n) (recursion_from_All (λ (r : PortRow). r.step < time_end) flat.tables.ports plannable.port_steps));
  }

  put_one : (n : ℕ) (row : ModuleRow) (rest : List AttrsOf) → n < length flat.tables.modules → row.step < time_end → AllByRecursion (IsOfCluster flat.tables cluster) rest
      → AllByRecursion (IsOfCluster flat.tables cluster) (cons_option (attrs_if flat cluster n row) rest)
  put_one n row rest within short are = go (cases_eq (slice_index (clusters_of flat.tables) n) cluster)
    where
      go : (slice_index (clusters_of flat.tables) n ≡ cluster) ⊎ (slice_index (clusters_of flat.tables) n ≡ cluster → ⊥)
          → AllByRecursion (IsOfCluster flat.tables cluster) (cons_option (attrs_if flat cluster n row) rest)
      go (inl inside) = rw (eq-eqb _ _ inside) (of_cluster n row within short inside, are)
      go (inr not) = rw (ne_eqb _ _ not) are

  rows_are : (k : ℕ) (rows : List ModuleRow) → k + length rows ≤ length flat.tables.modules → AllByRecursion (λ (r : ModuleRow). r.step < time_end) rows
      → AllByRecursion (IsOfCluster flat.tables cluster) (filter_map (λ row. attrs_if flat cluster row.0 row.1) (enumerate_from k rows))
  rows_are k [] within short = tt
  rows_are k (row ∷ rows) within short = put_one k row (filter_map (λ row. attrs_if flat cluster row.0 row.1) (enumerate_from (k + 1) rows))
      (omega (arith, within)) short.0 (rows_are (k + 1) rows (omega (arith, within)) short.1)

  pub table_is : All (IsOfCluster flat.tables cluster) (first_table flat cluster)
  unfolding first_table
  table_is = All-from_recursion (IsOfCluster flat.tables cluster) (filter_map (λ row. attrs_if flat cluster row.0 row.1) (enumerate_from 0 flat.tables.modules))
      (rows_are 0 flat.tables.modules (omega arith) (recursion_from_All (λ (r : ModuleRow). r.step < time_end) flat.tables.modules plannable.module_steps))

-- the rates of the text
module _ (flat : Flat) (cluster number : ℕ) where
  abbrev HasValues : AttrsOf → Type 0
  HasValues attrs = attrs.rates ≡ values_of flat (slice_get flat.tables.modules number)

  found_one : (n : ℕ) (row : ModuleRow) (rest : List AttrsOf) → slice_get flat.tables.modules n ≡ Some row → IfSome (attrs_at rest number) HasValues
      → IfSome (attrs_at (cons_option (attrs_if flat cluster n row) rest) number) HasValues
  found_one n row rest is before = go (cases_eq (slice_index (clusters_of flat.tables) n) cluster) (cases_eq n number)
    where
      go : (slice_index (clusters_of flat.tables) n ≡ cluster) ⊎ (slice_index (clusters_of flat.tables) n ≡ cluster → ⊥) → (n ≡ number) ⊎ (n ≡ number → ⊥)
          → IfSome (attrs_at (cons_option (attrs_if flat cluster n row) rest) number) HasValues
      go (inr not) second = rw (ne_eqb _ _ not) before
      go (inl inside) (inr other) = rw (eq-eqb _ _ inside) (rw (ne_eqb n number other) before)
      go (inl inside) (inl same) = rw (eq-eqb _ _ inside) (rw (eq-eqb n number same) (sym (ap (values_of flat) (ap (slice_get flat.tables.modules) (sym same) ∙ is))))

  found_in : (k : ℕ) (rows : List ModuleRow) → ((j : ℕ) → slice_get flat.tables.modules (k + j) ≡ slice_get rows j)
      → IfSome (attrs_at (filter_map (λ row. attrs_if flat cluster row.0 row.1) (enumerate_from k rows)) number) HasValues
  found_in k [] same = tt
  found_in k (row ∷ rows) same = found_one k row (filter_map (λ row. attrs_if flat cluster row.0 row.1) (enumerate_from (k + 1) rows))
      (ap (slice_get flat.tables.modules) (omega arith) ∙ same 0)
      (found_in (k + 1) rows (λ j. ap (slice_get flat.tables.modules) (omega arith) ∙ same (suc j)))

  pub values_are : IfSome (attrs_at (first_table flat cluster) number) HasValues
  unfolding first_table
  values_are = found_in 0 flat.tables.modules (λ j. ap (slice_get flat.tables.modules) (omega arith))

rate_is : (flat : Flat) (cluster : ℕ) (port : PortRow) (o : Option AttrsOf) → IfSome o (HasValues flat cluster port.«module») → IsRate (text_rate flat port) → IsRate (rate_by port o)
rate_is flat cluster port None values rate = record { some = omega arith; few = omega arith }
rate_is flat cluster port (Some attrs) values rate = subst (λ v. IsRate (times_value port.rate.times v port.rate.var)) (sym values) rate

pub rates_are : (flat : Flat) (cluster : ℕ) → HasRatesInRange flat → AreRates flat.tables (first_table flat cluster)
rates_are flat cluster rates = All-from_recursion (λ (p : PortRow). IsRate (port_rate (first_table flat cluster) p)) flat.tables.ports
    (go flat.tables.ports (recursion_from_All (λ (p : PortRow). IsRate (text_rate flat p)) flat.tables.ports rates))
  where
    go : (ports : List PortRow) → AllByRecursion (λ (p : PortRow). IsRate (text_rate flat p)) ports → AllByRecursion (λ (p : PortRow). IsRate (port_rate (first_table flat cluster) p)) ports
    go [] all = tt
    go (p ∷ ports) all = (rate_is flat cluster p (attrs_at (first_table flat cluster) p.«module») (values_are flat cluster p.«module») all.0, go ports all.1)
