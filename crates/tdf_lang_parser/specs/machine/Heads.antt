-- How the rows that open a text are read (own): the version by the first, the resolution by a second. Private functions' clauses cite it;
-- `proofs/` show that it reads exactly what `SpellsHead` says.
use Rattle.std.specs.Prelude.{ℕ, nat_eq, if◌then◌else◌, List, [], ◌∷◌, Option, Some, None, codes}
use Rattle.std.specs.Cmp.Lexicographic.{pointwise}
use Rattle.tdf_base.specs.declared.resolution.Resolution.{Resolution}
use Rattle.tdf_base.specs.declared.resolution.Resolution.TheVariants.{Ps, Fs}
use Rattle.tdf_base.specs.Version.{has_resolution}
use Rattle.tdf_base.specs.declared.version.Version.{Version}
use Rattle.tdf_base.specs.declared.version.Version.TheVariants.{V1, V2, V3}
use Rattle.tdf_lang_lexer.specs.Rows.{Row}

-- the version that a piece says
abbrev pub version_of : List ℕ → Option Version
version_of piece = if pointwise nat_eq piece (codes "1") then Some V1
    else if pointwise nat_eq piece (codes "2") then Some V2
    else if pointwise nat_eq piece (codes "3") then Some V3
    else None

-- the resolution that a piece says
abbrev pub resolution_of : List ℕ → Option Resolution
resolution_of piece = if pointwise nat_eq piece (codes "1ps") then Some Ps
    else if pointwise nat_eq piece (codes "1fs") then Some Fs
    else None

-- what the second of two pieces says, where the first is a word
abbrev pub second_of : {A : Type 0} → List ℕ → (List ℕ → Option A) → List (List ℕ) → Option A
second_of word says (first ∷ (second ∷ [])) = if pointwise nat_eq first word then says second else None
second_of word says _ = None

abbrev pub read_version : List (List ℕ) → Option Version
read_version pieces = second_of (codes "language") version_of pieces

abbrev pub read_resolution : List (List ℕ) → Option Resolution
read_resolution pieces = second_of (codes "resolution") resolution_of pieces

-- the resolution that the first of some rows says
abbrev pub first_resolution : List Row → Option Resolution
first_resolution [] = None
first_resolution (r ∷ rs) = read_resolution r.pieces

-- where the version allows a resolution line
abbrev pub resolution_line : Version → List Row → Option Resolution
resolution_line version rows = if has_resolution version then first_resolution rows else None
