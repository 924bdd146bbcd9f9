-- A table as text: a head with labels, and rows with rising times.
-- Source: own.
use Rattle.std.specs.Prelude.{◌≡◌, ℕ, ◌<◌, ◌^◌, true, List, [], ◌∷◌, ◌++◌, length, codes}
use Rattle.std.specs.Prelude.{Option, Some, None}
use Rattle.std.specs.List.{flat_map, AllByRecursion}
use Rattle.tdf_base.specs.Names.{is_name}
use Rattle.tdf_base.specs.declared.resolution.Resolution.TheVariants.{Fs}
use Rattle.tdf_fixed.specs.Decimal.{seconds_text_at}
use Rattle.tdf_lang_lexer.specs.Words.{key_of}
use Rattle.tdf_tables.specs.Cells.{IsCell}
use Rattle.tdf_tables.specs.Words.{spaced}

-- bytes of the text of a table that is read
abbrev pub longest_table : ℕ
longest_table = 67108864

-- a time in fs, and a cell for each label
pub record TableRow : Type 0 where
  pub time : ℕ
  pub cells : List (List ℕ)

pub record TableOf : Type 0 where
  pub labels : List (List ℕ)
  pub rows : List TableRow

-- ---- the text

-- `%time LABEL LABEL ..`
abbrev pub table_head_text : List (List ℕ) → List ℕ
table_head_text labels = codes "%time" ++ (spaced labels ++ 10 ∷ [])

-- `TIME CELL CELL ..`, the time in seconds
abbrev pub table_row_text : TableRow → List ℕ
table_row_text row = seconds_text_at Fs row.time ++ (spaced row.cells ++ 10 ∷ [])

unfoldable pub table_rows_text : List TableRow → List ℕ
table_rows_text rows = flat_map table_row_text rows

unfoldable pub table_text : TableOf → List ℕ
table_text table = table_head_text table.labels ++ table_rows_text table.rows

-- ---- the form

-- a name as models write it, and no reserved word
pub record IsLabel (text : List ℕ) : Type 0 where
  pub name : is_name text ≡ true
  pub own : key_of text ≡ None

pub record AreColumnLabels (labels : List (List ℕ)) : Type 0 where
  pub some : 0 < length labels
  pub each : AllByRecursion IsLabel labels

-- no time of a table is at 10^6 s or later, in fs
abbrev pub latest : ℕ
latest = 10 ^ 21

pub record IsRow (columns : ℕ) (row : TableRow) : Type 0 where
  pub early : row.time < latest
  pub many : length row.cells ≡ columns
  pub cells : AllByRecursion IsCell row.cells

-- the time of the last of some rows
unfoldable pub last_time : List TableRow → Option ℕ
last_time [] = None
last_time (r ∷ []) = Some r.time
last_time (r ∷ (s ∷ rs)) = last_time (s ∷ rs)

-- the first time is 0, and times rise
abbrev pub FollowsTime : Option ℕ → (time : ℕ) → Type 0
FollowsTime None time = time ≡ 0
FollowsTime (Some before) time = before < time

-- rows one after the other
pub data AreRows (columns : ℕ) : List TableRow → Type 0 where
  NoRows : AreRows columns []
  MoreRows : {rows : List TableRow} → AreRows columns rows → (row : TableRow) → IsRow columns row
      → FollowsTime (last_time rows) row.time → AreRows columns (rows ++ row ∷ [])

-- a head, and rows, perhaps none
pub record IsFront (t : TableOf) : Type 0 where
  pub labels : AreColumnLabels t.labels
  pub rows : AreRows (length t.labels) t.rows

pub record IsTableForm (t : TableOf) : Type 0 where
  pub front : IsFront t
  pub some : 0 < length t.rows

-- a text is that of a table
pub record SpellsTable (text : List ℕ) (t : TableOf) : Type 0 where
  pub is : text ≡ table_text t
  pub table : IsTableForm t
