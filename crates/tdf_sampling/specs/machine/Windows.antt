-- Rows, window after window. Source: own.
use Rattle.std.specs.List.{AllByRecursion, prefix_len}
use Rattle.std.specs.Prelude.{◌≡◌, ◌<◌, ◌≤◌, ℕ, ◌+◌, ◌*◌, ◌/◌, nat_lt, ⊤}
use Rattle.std.specs.Prelude.{List, [], ◌∷◌, ◌++◌, drop, map, take}
use Rattle.tdf_sampling.specs.Choice.{end_time}
use Rattle.tdf_sampling.specs.Statistics.{group_text, window_line}
use Rattle.tdf_tables.specs.Rows.{row_of}
use Rattle.tdf_tables.specs.Tables.{TableRow}
use Rattle.tdf_tables.specs.declared.table.Row.{Row}

-- what the code's rows stand for
abbrev pub rows_of : List Row → List TableRow
rows_of rows = map row_of rows

-- how many of the code's rows from the front on are before a time
abbrev pub passed_before : (limit : ℕ) → List Row → ℕ
passed_before limit rows = prefix_len (λ row. nat_lt row.time limit) rows

-- each time is one of some least time or later, and they rise
unfoldable pub AreRising : (least : ℕ) → List TableRow → Type 0
AreRising least [] = ⊤
AreRising least (row ∷ rows) = (least ≤ row.time) × AreRising (row.time + 1) rows

abbrev pub count_before : (limit : ℕ) → List TableRow → ℕ
count_before limit rows = prefix_len (λ row. nat_lt row.time limit) rows

-- the rows before a time, and the others
abbrev pub rows_before : (limit : ℕ) → List TableRow → List TableRow
rows_before limit rows = take (count_before limit rows) rows

abbrev pub rows_after : (limit : ℕ) → List TableRow → List TableRow
rows_after limit rows = drop (count_before limit rows) rows

-- the window of the next row; after the last row, the one after its window
abbrev pub next_window : (step : ℕ) → (rest : List TableRow) → (end : ℕ) → ℕ
next_window step [] end = end / step + 1
next_window step (row ∷ rest) end = row.time / step

-- the window of the first row, how many rows it has, and its text
abbrev pub first_window : (step : ℕ) → List TableRow → ℕ
first_window step [] = 0
first_window step (row ∷ rows) = row.time / step

abbrev pub first_limit : (step : ℕ) → List TableRow → ℕ
first_limit step rows = (first_window step rows + 1) * step

abbrev pub first_text : (labels : List (List ℕ)) → (step : ℕ) → List TableRow → List ℕ
first_text labels step rows = window_line (first_window step rows * step)
    ++ group_text labels (rows_before (first_limit step rows) rows)

-- of all rows these are left, and those before them are in earlier windows than the next row
pub record IsAhead (rows : List TableRow) (step : ℕ) (rest : List TableRow) : Type 0 where
  pub front : List TableRow
  pub whole : rows ≡ front ++ rest
  pub before : AllByRecursion (λ row. row.time < next_window step rest (end_time rows) * step) front
