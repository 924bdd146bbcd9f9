-- What holds of tables by values that are given.
-- Source: own.
use Rattle.std.specs.Prelude.{◌≡◌, ℕ, Bool, List}
use Rattle.tdf_bind.specs.declared.model.Flat.{Flat}
use Rattle.tdf_dynamic_plans.specs.Attributes.{AttrsOf}
use Rattle.tdf_dynamic_values.specs.Values.{HoldsValues}
use Rattle.tdf_streams.specs.Periods.{AreAttributes}

-- values that are given are those of one table of a cluster at most
abbrev pub ValuesAreOfOne : Type 0
ValuesAreOfOne = (flat : Flat) (cluster : ℕ) (accepts : List Bool) (rates steps : List ℕ)
    → (one other : List AttrsOf)
    → AreAttributes flat cluster one → HoldsValues flat cluster accepts rates steps one
    → AreAttributes flat cluster other → HoldsValues flat cluster accepts rates steps other
    → one ≡ other
