-- Which line of a text keeps it from being that of a table.
-- Source: own.
use Rattle.std.specs.Prelude.{◌≡◌, ℕ, ◌+◌, ◌<◌, ◌⊎◌, List, [], ◌++◌, length}
use Rattle.tdf_tables.specs.Tables.{TableRow, TableOf, AreColumnLabels, IsFront, FollowsTime, IsRow}
use Rattle.tdf_tables.specs.Tables.{table_head_text, last_time, table_row_text, table_text}
use Rattle.tdf_tables.specs.declared.err.TableErr.{TableErr}
use Rattle.tdf_tables.specs.declared.err.TableErr.TheVariants.{Line, Memory}

-- no head begins a text
abbrev pub HasNoHead : List ℕ → Type 0
HasNoHead text = (labels : List (List ℕ)) (rest : List ℕ) → AreColumnLabels labels
    → text ≡ table_head_text labels ++ rest → ⊥

-- no row that may come after some others begins a text
abbrev pub HasNoRow : (columns : ℕ) → List TableRow → (rest : List ℕ) → Type 0
HasNoRow columns rows rest = (row : TableRow) (more : List ℕ) → IsRow columns row
    → FollowsTime (last_time rows) row.time → rest ≡ table_row_text row ++ more → ⊥

-- the first line that breaks the form, counted from the head: that of the head; or after a head
-- and some rows that of a further row, where there must be one, since there is none yet or the
-- text goes on
pub data HasTableFault (text : List ℕ) : (line : ℕ) → Type 0 where
  of_head : HasNoHead text → HasTableFault text 1
  of_row : (t : TableOf) (rest : List ℕ) → IsFront t → text ≡ table_text t ++ rest
      → (t.rows ≡ []) ⊎ (0 < length rest) → HasNoRow (length t.labels) t.rows rest
      → HasTableFault text (length t.rows + 2)

-- why a text is refused: the line is the one at fault; out of memory is free
abbrev pub IsTableRefusal : (text : List ℕ) → TableErr → Type 0
IsTableRefusal text (Line line) = HasTableFault text line
IsTableRefusal text Memory = Unit {0}
