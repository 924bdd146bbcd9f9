-- What follows the head of a table: its rows, or the line at fault.
-- Source: own.
use Rattle.std.specs.Prelude.{◌≡◌, ℕ, ◌+◌, ◌<◌, ◌⊎◌, List, [], ◌++◌, length, map}
use Rattle.tdf_tables.specs.Faults.{HasNoRow}
use Rattle.tdf_tables.specs.Rows.{row_of}
use Rattle.tdf_tables.specs.Tables.{TableRow, AreRows, table_rows_text}
use Rattle.tdf_tables.specs.declared.err.TableErr.{TableErr}
use Rattle.tdf_tables.specs.declared.err.TableErr.TheVariants.{Line, Memory}
use Rattle.tdf_tables.specs.declared.table.Row.{Row}

abbrev pub seen : List Row → List TableRow
seen rows = map row_of rows

-- what follows the head is these rows
pub record IsRowsText (columns : ℕ) (text : List ℕ) (rows : List TableRow) : Type 0 where
  pub is : text ≡ table_rows_text rows
  pub some : 0 < length rows
  pub rows_are : AreRows columns rows

-- what follows the head is at fault on a line, counted from the head
pub record HasFault (columns : ℕ) (text : List ℕ) (line : ℕ) : Type 0 where
  pub rows : List TableRow
  pub rest : List ℕ
  pub is : text ≡ table_rows_text rows ++ rest
  pub before : AreRows columns rows
  pub goes_on : (rows ≡ []) ⊎ (0 < length rest)
  pub none : HasNoRow columns rows rest
  pub line_is : line ≡ length rows + 2

-- the line is the one at fault; out of memory is free
abbrev pub IsWhy : (columns : ℕ) → (text : List ℕ) → TableErr → Type 0
IsWhy columns text (Line line) = HasFault columns text line
IsWhy columns text Memory = Unit {0}

abbrev pub IsMemory : TableErr → Type 0
IsMemory (Line line) = ⊥
IsMemory Memory = Unit {0}
