-- Where modules stand in a table of attributes.
-- Source: own.
use Rattle.std.specs.Prelude.{ℕ, Option, List, option_map, slice_get}
use Rattle.tdf_dynamic_plans.specs.Attributes.{AttrsOf}

-- the number of the module whose row stands at a place
abbrev pub number_at : List AttrsOf → ℕ → Option ℕ
number_at table place = option_map (λ (attrs : AttrsOf). attrs.number) (slice_get table place)
