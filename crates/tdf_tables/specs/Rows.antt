-- The rows that the code's rows stand for, and parts of texts.
-- Source: own.
use Rattle.std.specs.Prelude.{◌≡◌, ℕ, List, ◌++◌}
use Rattle.tdf_tables.specs.Tables.{TableRow}
use Rattle.tdf_tables.specs.Words.{words_of}
use Rattle.tdf_tables.specs.declared.table.Row.{Row}

abbrev pub row_of : Row → TableRow
row_of row = record { time = row.time; cells = words_of row.cells.now }

-- the front of a text was appended
pub record AppendsPart (old new text : List ℕ) : Type 0 where
  pub front : List ℕ
  pub rest : List ℕ
  pub whole : text ≡ front ++ rest
  pub is : new ≡ old ++ front
