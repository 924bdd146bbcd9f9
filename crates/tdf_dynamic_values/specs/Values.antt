-- The values that a table of attributes of a cluster holds, given one after the other.
-- Source: own; the attributes are those of tdf_dynamic_plans.
use Rattle.std.specs.List.{flat_map, sum_by}
use Rattle.std.specs.Prelude.{◌≡◌, ◌<◌, ℕ, Bool, List, All, length, map, slice_get}
use Rattle.tdf_base.specs.Limits.{time_end}
use Rattle.tdf_bind.specs.declared.model.Flat.{Flat}
use Rattle.tdf_streams.specs.Below.{limits_in}
use Rattle.tdf_dynamic_first.specs.Text.{first_table}
use Rattle.tdf_dynamic_plans.specs.Attributes.{AttrsOf}
use Rattle.tdf_expr_semantics.specs.Fits.{RatesFit}
use Rattle.tdf_expr_semantics.specs.Places.{RateLimits}

-- the limits of the rate variables of a module
abbrev pub limits_of_row : Flat → AttrsOf → List RateLimits
limits_of_row flat attrs =
    limits_in flat.checked (slice_get flat.tables.modules attrs.number)

-- those of all modules of a table, one after the other
abbrev pub limits_of_table : Flat → List AttrsOf → List RateLimits
limits_of_table flat table = flat_map (limits_of_row flat) table

-- how many timesteps the modules of a table and their ports have
abbrev pub step_count : List AttrsOf → ℕ
step_count table = sum_by (λ attrs. length attrs.steps) table

-- values for the modules of a cluster as the text has them, in order: a flag for each module, a
-- rate within its limits for each rate variable, and a timestep for each module and each port
pub record AreValuesFor (flat : Flat) (cluster : ℕ) (accepts : List Bool) (rates steps : List ℕ)
    : Type 0 where
  pub accepts_long : length accepts ≡ length (first_table flat cluster)
  pub rates_fit : RatesFit (limits_of_table flat (first_table flat cluster)) rates
  pub steps_long : length steps ≡ step_count (first_table flat cluster)
  pub steps_short : All (λ step. step < time_end) steps

-- a table of the modules of the cluster that holds these values, one after the other
pub record HoldsValues (flat : Flat) (cluster : ℕ) (accepts : List Bool) (rates steps : List ℕ)
    (table : List AttrsOf) : Type 0 where
  pub members : map (λ (attrs : AttrsOf). attrs.number) table
      ≡ map (λ (attrs : AttrsOf). attrs.number) (first_table flat cluster)
  pub accepts_are : map (λ (attrs : AttrsOf). attrs.accepts) table ≡ accepts
  pub rates_are : flat_map (λ (attrs : AttrsOf). attrs.rates) table ≡ rates
  pub steps_are : flat_map (λ (attrs : AttrsOf). attrs.steps) table ≡ steps
