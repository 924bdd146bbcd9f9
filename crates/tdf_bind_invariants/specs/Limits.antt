-- The numbers of a flat model lie within their limits, so that its clusters can be planned: as the
-- text says, and with all values that its rate variables may take.
-- Source: own.
use Rattle.std.specs.Prelude.{◌≡◌, ◌<◌, ◌≤◌, ◌*◌, ℕ, List, [], length, map, Option, Some, None, All, slice_get, slice_index}
use Rattle.tdf_base.specs.Limits.{greatest_delay, time_end}
use Rattle.tdf_bind_tables.specs.Actors.{AreActors}
use Rattle.tdf_bind_tables.specs.Ranges.{AreInRange}
use Rattle.tdf_expr_blocks.specs.Types.{type_faults}
use Rattle.tdf_expr.specs.Checked.{IsChecked, IsCheckedOf}
use Rattle.tdf_expr.specs.Frames.{limits_of_rate}
use Rattle.tdf_expr.specs.Made.{block_count, rate_spans_of, start_rates}
use Rattle.tdf_expr.specs.declared.checked.Checked.{Checked}
use Rattle.tdf_bind.specs.Flat.{IsFlatOf}
use Rattle.tdf_bind.specs.declared.model.Flat.{Flat}
use Rattle.tdf_graph.specs.Ranges.{IsRate}
use Rattle.tdf_expr_semantics.specs.Fits.{RatesFit}
use Rattle.tdf_expr_semantics.specs.Places.{RateLimits}
use Rattle.tdf_lang_tree.specs.Kept.{IsKept}
use Rattle.tdf_lang_tree.specs.Pure.{PureTree}
use Rattle.tdf_bind_connections.specs.declared.modules.ModuleRow.{ModuleRow}
use Rattle.tdf_bind_connections.specs.declared.modules.PortRow.{PortRow}
use Rattle.tdf_bind_connections.specs.declared.roles.Rate.{Rate}

-- a number, or a number times the value of a rate variable
abbrev pub times_value : ℕ → List ℕ → Option ℕ → ℕ
times_value times values None = times
times_value times values (Some var) = times * slice_index values var

-- the values that the rate variables of a module start with
abbrev pub values_of : Flat → Option ModuleRow → List ℕ
values_of flat None = []
values_of flat (Some row) = start_rates flat.checked row.block

-- the rate of a port as the text says it
abbrev pub text_rate : Flat → PortRow → ℕ
text_rate flat port = times_value port.rate.times
    (values_of flat (slice_get flat.tables.modules port.«module»)) port.rate.var

-- the rates of the text are in range
abbrev pub HasRatesInRange : Flat → Type 0
HasRatesInRange flat = All (λ port. IsRate (text_rate flat port)) flat.tables.ports

-- the limits of the rate variables of a module
abbrev pub limits_in : Checked → Option ModuleRow → List RateLimits
limits_in checked None = []
limits_in checked (Some row) = map limits_of_rate (rate_spans_of checked row.block)

-- a rate is in range with all values of the rate variables within their limits
abbrev pub IsAlwaysRate : List RateLimits → Rate → Type 0
IsAlwaysRate limits rate = (values : List ℕ) → RatesFit limits values
    → IsRate (times_value rate.times values rate.var)

-- the rate of each port is in range with all values that the rate variables of its module may take
abbrev pub HasRatesAlways : Flat → Type 0
HasRatesAlways flat = All (λ port.
    IsAlwaysRate (limits_in flat.checked (slice_get flat.tables.modules port.«module»)) port.rate)
    flat.tables.ports

-- what a flat model has, so that its clusters can be planned
pub record AreWithinLimits (flat : Flat) : Type 0 where
  pub in_range : AreInRange flat.tables
  pub actors : AreActors (length flat.tables.modules) flat.tables.ports flat.tables.edges
      flat.tables.actors
  pub delays : All (λ edge. edge.initial ≤ 2 * greatest_delay) flat.tables.edges
  pub module_steps : All (λ row. row.step < time_end) flat.tables.modules
  pub port_steps : All (λ row. row.step < time_end) flat.tables.ports
  pub checked_is : IsChecked flat.checked
  pub blocks : All (λ row. row.block < block_count flat.checked) flat.tables.modules
  pub rates : HasRatesInRange flat
  pub always : HasRatesAlways flat

-- the numbers in the flat model of a text without a fault of types lie within their limits
abbrev pub FlatIsWithinLimits : Type 0
FlatIsWithinLimits = (model : PureTree) (flat : Flat) → IsKept model → type_faults model ≡ []
    → IsFlatOf model flat → AreWithinLimits flat

-- the values that the rate variables of a block start with lie within their limits
abbrev pub StartsAreAllowed : Type 0
StartsAreAllowed = (checked : Checked) → IsChecked checked → (number : ℕ)
    → RatesFit (map limits_of_rate (rate_spans_of checked number)) (start_rates checked number)

-- two checks of one model give a block of a number the same rate variables
abbrev pub SpansAreOne : Type 0
SpansAreOne = (model : PureTree) (one other : Checked) → IsCheckedOf model one
    → IsCheckedOf model other → (number : ℕ) → rate_spans_of one number ≡ rate_spans_of other number

-- and the same values to start with
abbrev pub StartsAreOne : Type 0
StartsAreOne = (model : PureTree) (one other : Checked) → IsCheckedOf model one
    → IsCheckedOf model other → (number : ℕ) → start_rates one number ≡ start_rates other number
