-- The versions of the language, and what each has (own).
use Rattle.std.specs.Prelude.{ℕ, Bool, true, false}
use Rattle.tdf_base.specs.declared.version.Version.{Version}
use Rattle.tdf_base.specs.declared.version.Version.TheVariants.{V1, V2, V3}

-- its number, as a text says it
abbrev pub number_of_version : Version → ℕ
number_of_version V1 = 1
number_of_version V2 = 2
number_of_version V3 = 3

-- it has multiples of loop and rate variables: from version 2 on
unfoldable pub has_multiples : Version → Bool
has_multiples V1 = false
has_multiples V2 = true
has_multiples V3 = true

-- a text may say its resolution, and times are read by six units: from version 3 on
abbrev pub has_resolution : Version → Bool
has_resolution V1 = false
has_resolution V2 = false
has_resolution V3 = true
