-- The rows that are taken, one after the other. Source: own.
use Rattle.std.specs.List.{AllByRecursion, prefix_len, range_with_len}
use Rattle.std.specs.Prelude.{◌≡◌, ◌≤◌, ℕ, ◌*◌, ◌%◌, nat_eq, nat_le, if◌then◌else◌}
use Rattle.std.specs.Prelude.{List, [], ◌∷◌, ◌++◌, drop, map}
use Rattle.tdf_sampling.specs.Choice.{row_at}
use Rattle.tdf_tables.specs.Tables.{TableRow}
use Rattle.tdf_tables.specs.declared.table.Row.{Row}

-- the row at a place, where every n-th is taken
abbrev pub taken : (n place : ℕ) → TableRow → List TableRow
taken n place row = if nat_eq (place % n) 0 then row ∷ [] else []

-- the first rows by steps
abbrev pub every_upto : (step : ℕ) → List TableRow → (count : ℕ) → List TableRow
every_upto step rows count = map (λ k. row_at rows (k * step)) (range_with_len 0 count)

-- how many of the code's rows from the front on are at or before a time
abbrev pub passed_upto : (time : ℕ) → List Row → ℕ
passed_upto time rows = prefix_len (λ row. nat_le row.time time) rows

-- the rows from the last one at or before a time on, of which the first is no later
abbrev pub rows_from : (time : ℕ) → List TableRow → List TableRow
rows_from time [] = []
rows_from time (row ∷ more) = drop (prefix_len (λ r. nat_le r.time time) more) (row ∷ more)

-- the first of some rows is at or before a time
abbrev pub HasBegun : (time : ℕ) → List TableRow → Type 0
HasBegun time [] = ⊥
HasBegun time (row ∷ more) = row.time ≤ time

-- of all rows these are left, and those before them are at or before a time, and so is the first
pub record IsLeft (rows : List TableRow) (time : ℕ) (rest : List TableRow) : Type 0 where
  pub front : List TableRow
  pub whole : rows ≡ front ++ rest
  pub before : AllByRecursion (λ row. row.time ≤ time) front
  pub begun : HasBegun time rest
