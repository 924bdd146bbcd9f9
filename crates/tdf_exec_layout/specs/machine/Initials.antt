-- How given samples come to their places.
-- Source: own.
use Rattle.std.specs.Prelude.{ℕ, List, [], ◌∷◌, if◌then◌else◌, length, nat_lt, slice_set}
use Rattle.tdf_fixed.specs.declared.raw.Raw.{Raw}

-- one after another
abbrev pub given_to : List (ℕ × Raw) → List Raw → List Raw
given_to [] samples = samples
given_to (given ∷ rest) samples = given_to rest
    (if nat_lt given.0 (length samples) then slice_set samples given.0 given.1 else samples)
