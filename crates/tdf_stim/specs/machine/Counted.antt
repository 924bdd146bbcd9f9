-- The columns that drive: how many there are, and their labels.
-- Source: own.
use Rattle.std.specs.Prelude.{ℕ, ◌+◌, List, [], ◌∷◌, Option, Some, None}
use Rattle.tdf_lang_tree.specs.declared.blocks.Member.{Member}
use Rattle.tdf_stim.specs.Driver.{bind_line}
use Rattle.tdf_stim.specs.Signals.{SourceOf}

unfoldable pub count_driving : List (Option SourceOf) → ℕ
count_driving [] = 0
count_driving (None ∷ sources) = count_driving sources
count_driving (Some s ∷ sources) = count_driving sources + 1

unfoldable pub labels_in : List (Option SourceOf) → List (List ℕ)
labels_in [] = []
labels_in (None ∷ sources) = labels_in sources
labels_in (Some s ∷ sources) = s.label ∷ labels_in sources

-- the `bind` line of a column, where it drives
abbrev pub added_binds : (name : List ℕ) → (number : ℕ) → Option SourceOf → List Member
added_binds name number None = []
added_binds name number (Some s) = bind_line name number s.label ∷ []
