-- Choices of a table's rows: every n-th, or one at each multiple of a step. Source: own.
use Rattle.std.specs.Prelude.{ℕ, ◌+◌, ◌*◌, ◌/◌, ◌%◌, Bool, false, nat_eq, nat_le, map, filter}
use Rattle.std.specs.Prelude.{List, [], Option, Some, None, unwrap_or}
use Rattle.std.specs.List.{enumerate_from, last_or, range_with_len}
use Rattle.tdf_sampling.specs.declared.asked.Choice.{Choice}
use Rattle.tdf_sampling.specs.declared.asked.Choice.TheVariants.{Nth, Every}
use Rattle.tdf_tables.specs.Tables.{TableRow, TableOf, last_time}

-- the rows whose number, from 0, is a multiple of n
unfoldable pub nth : {A : Type 0} → (n : ℕ) → List A → List A
nth n rows = map (λ row. row.1) (filter (λ row. nat_eq (row.0 % n) 0) (enumerate_from 0 rows))

-- the time of the last row
abbrev pub end_time : List TableRow → ℕ
end_time rows = unwrap_or (last_time rows) 0

-- the rows at or before a time
abbrev pub rows_upto : List TableRow → (time : ℕ) → List TableRow
rows_upto rows time = filter (λ row. nat_le row.time time) rows

abbrev pub cells_of_row : Option TableRow → List (List ℕ)
cells_of_row None = []
cells_of_row (Some row) = row.cells

-- the cells of the last row at or before a time
unfoldable pub cells_at : List TableRow → (time : ℕ) → List (List ℕ)
cells_at rows time = cells_of_row (last_or None (rows_upto rows time))

-- a row with those cells
abbrev pub row_at : List TableRow → (time : ℕ) → TableRow
row_at rows time = record { time = time; cells = cells_at rows time }

-- one row at each multiple of a step, from 0 up to the last row's time, the last one included
unfoldable pub every : (step : ℕ) → List TableRow → List TableRow
every step rows =
    map (λ k. row_at rows (k * step)) (range_with_len 0 (end_time rows / step + 1))

-- femtoseconds, in which tables count, in a picosecond
abbrev pub femtoseconds : ℕ
femtoseconds = 1000

-- the rows of a choice; its step is in ps
abbrev pub chosen_rows : Choice → List TableRow → List TableRow
chosen_rows (Nth n) rows = nth n rows
chosen_rows (Every step) rows = every (step * femtoseconds) rows

-- the table of a choice
abbrev pub chosen_table : Choice → TableOf → TableOf
chosen_table choice table = record { labels = table.labels; rows = chosen_rows choice table.rows }

-- steps that are too many
abbrev pub most_steps : ℕ
most_steps = 10000000

-- the last time is too many steps away
abbrev pub is_too_fine : Choice → List TableRow → Bool
is_too_fine (Nth n) rows = false
is_too_fine (Every step) rows = nat_le most_steps (end_time rows / (step * femtoseconds))

-- the number of a choice
abbrev pub choice_number : Choice → ℕ
choice_number (Nth n) = n
choice_number (Every step) = step
