-- The rows with the values that are given hold these, and are attributes of their cluster.
use Rattle.std.proofs.Common.{◌≡◌, ◌∙◌, ◌+◌, ◌<◌, ◌≤◌, ◌++◌, ◌∷◌, [], ℕ, Bool, List, All, drop, length, map, take, refl, sym, ap, subst, arith}
use Rattle.std.proofs.lemmas.List.{length-append, length-drop, length-take-le, nil_from_length, take-append-drop}
use Rattle.std.proofs.lemmas.List.Elements.{All-drop, All-from_recursion, All-take, recursion_from_All}
use Rattle.std.proofs.lemmas.List.Sums.{sum_by-cons}
use Rattle.std.specs.List.{AllByRecursion, flat_map, list_any, sum_by}
use Rattle.std.specs.Prelude.{◌||◌, if◌then◌else◌}
use Rattle.tdf_base.specs.Limits.{time_end}
use Rattle.tdf_bind.specs.declared.model.Flat.{Flat}
use Rattle.tdf_streams.specs.Below.{AreWithinLimits}
use Rattle.tdf_bind_tables.specs.FlatTables.{FlatTablesOf}
use Rattle.tdf_dynamic_first.specs.Text.{can_change, changes_at, first_table, none_known}
use Rattle.tdf_dynamic_plans.specs.Attributes.{AttrsOf, IsOfCluster}
use Rattle.tdf_dynamic_values.proofs.Fits.{fits_back, fits_front}
use Rattle.tdf_dynamic_values.specs.Values.{AreValuesFor, HoldsValues, limits_of_row, limits_of_table}
use Rattle.tdf_dynamic_values.specs.machine.Rows.{row_by, rows_by}
use Rattle.tdf_expr_semantics.specs.Fits.{RatesFit}
use Rattle.tdf_streams.proofs.Api.{text_attributes}
use Rattle.tdf_streams.specs.Periods.{AreAttributes, HasAllowedRates}

-- the rows have the numbers of the old ones, so they can change where these can
members_are : (rows : List AttrsOf) (accepts : List Bool) (rates steps : List ℕ) → length accepts ≡ length rows → map (λ (a : AttrsOf). a.number) (rows_by rows accepts rates steps) ≡ map (λ (a : AttrsOf). a.number) rows
members_are [] accepts rates steps long = refl
members_are (row ∷ rows) [] rates steps long = absurd (omega (arith, long))
members_are (row ∷ rows) (flag ∷ accepts) rates steps long =
    ap (λ (l : List ℕ). row.number ∷ l) (members_are rows accepts (drop (length row.rates) rates) (drop (length row.steps) steps) (omega (arith, long)))

any_by_number : (test : ℕ → Bool) (rows : List AttrsOf) → list_any (λ (a : AttrsOf). test a.number) rows ≡ list_any test (map (λ (a : AttrsOf). a.number) rows)
any_by_number test [] = refl
any_by_number test (row ∷ rows) = ap (λ (b : Bool). test row.number || b) (any_by_number test rows)

pub can_change_same : (tables : FlatTablesOf) (one other : List AttrsOf) → map (λ (a : AttrsOf). a.number) one ≡ map (λ (a : AttrsOf). a.number) other → can_change tables one ≡ can_change tables other
can_change_same tables one other same = any_by_number (changes_at tables) one ∙ ap (list_any (changes_at tables)) same ∙ sym (any_by_number (changes_at tables) other)

-- the same values for the same rows give the same
pub rows_by_same : (t u : List AttrsOf) (a b : List Bool) (r s p q : List ℕ) → t ≡ u → a ≡ b → r ≡ s → p ≡ q → rows_by t a r p ≡ rows_by u b s q
rows_by_same t u a b r s p q rows flags rates steps = λ i. rows_by (rows i) (flags i) (rates i) (steps i)

-- they hold the values
accepts_are : (rows : List AttrsOf) (accepts : List Bool) (rates steps : List ℕ) → length accepts ≡ length rows → map (λ (a : AttrsOf). a.accepts) (rows_by rows accepts rates steps) ≡ accepts
accepts_are [] accepts rates steps long = sym (nil_from_length accepts long)
accepts_are (row ∷ rows) [] rates steps long = absurd (omega (arith, long))
accepts_are (row ∷ rows) (flag ∷ accepts) rates steps long =
    ap (λ (l : List Bool). flag ∷ l) (accepts_are rows accepts (drop (length row.rates) rates) (drop (length row.steps) steps) (omega (arith, long)))

rest_long : (n : ℕ) (xs : List ℕ) (m : ℕ) → length xs ≡ n + m → length (drop n xs) ≡ m
rest_long n xs m long = let d = length-drop n xs in omega (arith, d, long)

rates_are : (rows : List AttrsOf) (accepts : List Bool) (rates steps : List ℕ) → length accepts ≡ length rows → length rates ≡ sum_by (λ (a : AttrsOf). length a.rates) rows
    → flat_map (λ (a : AttrsOf). a.rates) (rows_by rows accepts rates steps) ≡ rates
rates_are [] accepts rates steps long many = sym (nil_from_length rates many)
rates_are (row ∷ rows) [] rates steps long many = absurd (omega (arith, long))
rates_are (row ∷ rows) (flag ∷ accepts) rates steps long many =
    ap (λ (l : List ℕ). take (length row.rates) rates ++ l) (rates_are rows accepts (drop (length row.rates) rates) (drop (length row.steps) steps) (omega (arith, long))
    (rest_long (length row.rates) rates (sum_by (λ (a : AttrsOf). length a.rates) rows) (many ∙ sum_by-cons (λ (a : AttrsOf). length a.rates) row rows)))
    ∙ take-append-drop (length row.rates) rates

steps_are : (rows : List AttrsOf) (accepts : List Bool) (rates steps : List ℕ) → length accepts ≡ length rows → length steps ≡ sum_by (λ (a : AttrsOf). length a.steps) rows
    → flat_map (λ (a : AttrsOf). a.steps) (rows_by rows accepts rates steps) ≡ steps
steps_are [] accepts rates steps long many = sym (nil_from_length steps many)
steps_are (row ∷ rows) [] rates steps long many = absurd (omega (arith, long))
steps_are (row ∷ rows) (flag ∷ accepts) rates steps long many =
    ap (λ (l : List ℕ). take (length row.steps) steps ++ l) (steps_are rows accepts (drop (length row.rates) rates) (drop (length row.steps) steps) (omega (arith, long))
    (rest_long (length row.steps) steps (sum_by (λ (a : AttrsOf). length a.steps) rows) (many ∙ sum_by-cons (λ (a : AttrsOf). length a.steps) row rows)))
    ∙ take-append-drop (length row.steps) steps

-- they are of the cluster
module _ (flat : Flat) (cluster : ℕ) where
  one_own : (row : AttrsOf) (flag : Bool) (rates steps : List ℕ) → IsOfCluster flat.tables cluster row → length row.steps ≤ length steps → All (λ s. s < time_end) steps
      → IsOfCluster flat.tables cluster (row_by row flag rates steps)
  one_own row flag rates steps own few short = record {
    is_module = own.is_module;
    inside = own.inside;
    own = own.own;
    each = length-take-le (length row.steps) steps few ∙ own.each;
    short = All-take (λ s. s < time_end) (length row.steps) steps short;
  }

  all_own : (rows : List AttrsOf) (accepts : List Bool) (rates steps : List ℕ) → AllByRecursion (IsOfCluster flat.tables cluster) rows → length accepts ≡ length rows
      → length steps ≡ sum_by (λ (a : AttrsOf). length a.steps) rows → All (λ s. s < time_end) steps → AllByRecursion (IsOfCluster flat.tables cluster) (rows_by rows accepts rates steps)
  all_own [] accepts rates steps own long many short = tt
  all_own (row ∷ rows) [] rates steps own long many short = tt
  all_own (row ∷ rows) (flag ∷ accepts) rates steps own long many short =
      let cut = many ∙ sum_by-cons (λ (a : AttrsOf). length a.steps) row rows in (
        one_own row flag rates steps own.0 (omega (arith, cut)) short,
        all_own rows accepts (drop (length row.rates) rates) (drop (length row.steps) steps) own.1 (omega (arith, long))
            (rest_long (length row.steps) steps (sum_by (λ (a : AttrsOf). length a.steps) rows) cut) (All-drop (λ s. s < time_end) (length row.steps) steps short),
      )

  all_allowed : (rows : List AttrsOf) (accepts : List Bool) (rates steps : List ℕ) → AllByRecursion (HasAllowedRates flat) rows → RatesFit (limits_of_table flat rows) rates
      → AllByRecursion (HasAllowedRates flat) (rows_by rows accepts rates steps)
  all_allowed [] accepts rates steps allowed fit = tt
  all_allowed (row ∷ rows) [] rates steps allowed fit = tt
  all_allowed (row ∷ rows) (flag ∷ accepts) rates steps allowed fit = (
    fits_front (limits_of_row flat row) (limits_of_table flat rows) rates fit (length row.rates) allowed.0.long,
    all_allowed rows accepts (drop (length row.rates) rates) (drop (length row.steps) steps) allowed.1
        (fits_back (limits_of_row flat row) (limits_of_table flat rows) rates fit (length row.rates) allowed.0.long),
  )

-- as many limits as rates
limits_long : (flat : Flat) (rows : List AttrsOf) → AllByRecursion (HasAllowedRates flat) rows → length (limits_of_table flat rows) ≡ sum_by (λ (a : AttrsOf). length a.rates) rows
limits_long flat [] allowed = refl
limits_long flat (row ∷ rows) allowed =
    let both = length-append (limits_of_row flat row) (limits_of_table flat rows) in let one = allowed.0.long in let rest = limits_long flat rows allowed.1 in
    let sum = sum_by-cons (λ (a : AttrsOf). length a.rates) row rows in omega (arith, both, one, rest, sum)

-- the rows of the text with these values
module _ (flat : Flat) (cluster : ℕ) (limits : AreWithinLimits flat) (accepts : List Bool) (rates steps : List ℕ) (given : AreValuesFor flat cluster accepts rates steps) where
  text : AreAttributes flat cluster (first_table flat cluster)
  text = text_attributes flat cluster limits

  allowed : AllByRecursion (HasAllowedRates flat) (first_table flat cluster)
  allowed = recursion_from_All (HasAllowedRates flat) (first_table flat cluster) text.allowed

  pub rates_many : length rates ≡ sum_by (λ (a : AttrsOf). length a.rates) (first_table flat cluster)
  rates_many = given.rates_fit.long ∙ limits_long flat (first_table flat cluster) allowed

  abbrev rows : List AttrsOf
  rows = rows_by (first_table flat cluster) accepts rates steps

  rows_hold : HoldsValues flat cluster accepts rates steps rows
  rows_hold = record {
    members = members_are (first_table flat cluster) accepts rates steps given.accepts_long;
    accepts_are = accepts_are (first_table flat cluster) accepts rates steps given.accepts_long;
    rates_are = rates_are (first_table flat cluster) accepts rates steps given.accepts_long rates_many;
    steps_are = steps_are (first_table flat cluster) accepts rates steps given.accepts_long given.steps_long;
  }

  rows_attributes : AreAttributes flat cluster rows
  rows_attributes = record {
    own = All-from_recursion (IsOfCluster flat.tables cluster) rows (all_own flat cluster (first_table flat cluster) accepts rates steps
        (recursion_from_All (IsOfCluster flat.tables cluster) (first_table flat cluster) text.own) given.accepts_long given.steps_long given.steps_short);
    allowed = All-from_recursion (HasAllowedRates flat) rows (all_allowed flat cluster (first_table flat cluster) accepts rates steps allowed given.rates_fit);
  }

  -- a table that is these rows
  module _ (new : List AttrsOf) (is : new ≡ rows) where
    pub new_holds : HoldsValues flat cluster accepts rates steps new
    new_holds = subst (HoldsValues flat cluster accepts rates steps) (sym is) rows_hold

    pub new_attributes : AreAttributes flat cluster new
    new_attributes = subst (AreAttributes flat cluster) (sym is) rows_attributes

    pub new_known : none_known flat.tables (first_table flat cluster) ≡ none_known flat.tables new
    new_known = ap (λ (b : Bool). record { plans = []; most = if b then 8 else 0; made = 0 })
        (can_change_same flat.tables (first_table flat cluster) new (sym new_holds.members))
