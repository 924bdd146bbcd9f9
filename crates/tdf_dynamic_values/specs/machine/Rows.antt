-- The rows of a table with values that are given, row after row.
use Rattle.std.specs.List.{sum_by}
use Rattle.std.specs.Prelude.{◌≡◌, ◌+◌, ◌++◌, ℕ, Bool, List, [], ◌∷◌, drop, length, take}
use Rattle.tdf_dynamic_plans.specs.Attributes.{AttrsOf}

-- a row with this flag, and with as many rates and timesteps as it has
abbrev pub row_by : AttrsOf → Bool → (rates steps : List ℕ) → AttrsOf
row_by row accepts rates steps = record {
  number = row.number;
  ports = row.ports;
  accepts = accepts;
  rates = take (length row.rates) rates;
  steps = take (length row.steps) steps;
}

-- the flags, rates and timesteps go to the rows in order
abbrev pub rows_by : List AttrsOf → List Bool → (rates steps : List ℕ) → List AttrsOf
rows_by [] accepts rates steps = []
rows_by (row ∷ rows) [] rates steps = []
rows_by (row ∷ rows) (flag ∷ accepts) rates steps = row_by row flag rates steps
    ∷ rows_by rows accepts (drop (length row.rates) rates) (drop (length row.steps) steps)

-- the first rows have theirs, which end at these places of the rates and of the timesteps; what is
-- left is for the others
pub record AreRowsSoFar (rows : List AttrsOf) (accepts : List Bool) (rates steps : List ℕ) (i : ℕ)
    (new : List AttrsOf) (rate step : ℕ) : Type 0 where
  pub whole : new ++ rows_by (drop i rows) (drop i accepts) (drop rate rates) (drop step steps)
      ≡ rows_by rows accepts rates steps
  pub rates_left : rate + sum_by (λ row. length row.rates) (drop i rows) ≡ length rates
  pub steps_left : step + sum_by (λ row. length row.steps) (drop i rows) ≡ length steps
