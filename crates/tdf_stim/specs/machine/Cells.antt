-- Columns, one after the other: the first cells of all rows, and what comes after them.
-- Source: own.
use Rattle.std.specs.Prelude.{◌≡◌, ◌≤◌, ℕ, ◌+◌, List, [], ◌∷◌, ◌++◌, drop, length, map, take, slice_index_or, Option, Some, None}
use Rattle.tdf_lang_tree.specs.Pure.{PureDeLine}
use Rattle.tdf_lang_tree.specs.declared.names.Lit.{Lit}
use Rattle.tdf_stim.specs.Driver.{column_lines, columns_lines}
use Rattle.tdf_stim.specs.Signals.{SourceOf, columns_from}
use Rattle.tdf_tables.specs.Tables.{TableRow}

abbrev pub first_words : List (List (List ℕ)) → List (List ℕ)
first_words rows = map (λ row. slice_index_or row 0 []) rows

-- the last of a column's literals so far; above the first stands the starting literal
abbrev pub above : (start : Lit) → List Lit → Lit
above start [] = start
above start (x ∷ xs) = above x xs

-- the lines of a column, where it drives
abbrev pub added_lines : (number : ℕ) → Option SourceOf → (cells : List (List (List ℕ)))
    → List PureDeLine
added_lines number None cells = []
added_lines number (Some s) cells = column_lines number (record {
  label = s.label;
  shape = s.shape;
  start = s.start;
  cells = first_words cells;
})

-- the number of the next column that drives
abbrev pub number_after : (number : ℕ) → Option SourceOf → ℕ
number_after number None = number
number_after number (Some s) = number + 1

-- the first i columns were looked at, of which some drive
pub record ColumnsUpTo (rows : List TableRow) (sources : List (Option SourceOf)) (i number : ℕ)
    (cells : List (List (List ℕ))) (old new : List PureDeLine) : Type 0 where
  pub cells_are : cells ≡ map (λ row. drop i row.cells) rows
  pub number_is : number ≡ length (columns_from rows 0 (take i sources))
  pub few : number ≤ i
  pub lines_are : new ≡ old ++ columns_lines 0 (columns_from rows 0 (take i sources))
