-- What is kept of the cells of a column, one cell after the other. Source: own.
use Rattle.std.specs.Cmp.Lexicographic.{pointwise}
use Rattle.std.specs.List.{fold}
use Rattle.std.specs.Prelude.{◌≡◌, ◌<◌, ◌-◌, ◌^◌, ℕ, ◌+◌, nat_eq, if◌then◌else◌}
use Rattle.std.specs.Prelude.{List, [], ◌++◌, length, slice_get, slice_index_or}
use Rattle.std.specs.Prelude.{Option, Some, None}
use Rattle.tdf_sampling.specs.Statistics.{change_count_text, column, counts_text, is_unknown, limits_text}
use Rattle.tdf_sampling.specs.machine.Bytes.{comes_first}
use Rattle.tdf_tables.specs.Tables.{TableRow}

pub record Measured : Type 0 where
  pub unknown : ℕ
  pub changes : ℕ
  pub least : Option (List ℕ)
  pub greatest : Option (List ℕ)
  pub last : Option (List ℕ)

abbrev pub no_cells : Measured
no_cells = record { unknown = 0; changes = 0; least = None; greatest = None; last = None }

-- 1 where a cell differs from the last one
abbrev pub change : Option (List ℕ) → List ℕ → ℕ
change None cell = 0
change (Some before) cell = if pointwise nat_eq before cell then 0 else 1

abbrev pub lesser : Option (List ℕ) → List ℕ → Option (List ℕ)
lesser None number = Some number
lesser (Some least) number = if comes_first least number then Some least else Some number

abbrev pub greater : Option (List ℕ) → List ℕ → Option (List ℕ)
greater None number = Some number
greater (Some greatest) number =
    if comes_first number greatest then Some greatest else Some number

abbrev pub with_unknown : Measured → List ℕ → Measured
with_unknown m cell = record {
  unknown = m.unknown + 1;
  changes = m.changes + change m.last cell;
  least = m.least;
  greatest = m.greatest;
  last = Some cell;
}

abbrev pub with_number : Measured → List ℕ → Measured
with_number m cell = record {
  unknown = m.unknown;
  changes = m.changes + change m.last cell;
  least = lesser m.least cell;
  greatest = greater m.greatest cell;
  last = Some cell;
}

-- with one cell more
abbrev pub with_cell : Measured → List ℕ → Measured
with_cell m cell = if is_unknown cell then with_unknown m cell else with_number m cell

unfoldable pub measured : List (List ℕ) → Measured
measured cells = fold with_cell no_cells cells

-- there is room for one more
pub record HasRoom (m : Measured) : Type 0 where
  pub unknown : m.unknown < 2 ^ 64 - 1
  pub changes : m.changes < 2 ^ 64 - 1

abbrev pub HaveRoom : List Measured → Type 0
HaveRoom columns = (k : ℕ) (m : Measured) → slice_get columns k ≡ Some m → HasRoom m

-- each column has one cell more, that of its place
pub record HasRow (old new : List Measured) (cells : List (List ℕ)) : Type 0 where
  pub same : length new ≡ length old
  pub each : (k : ℕ) (m : Measured) (cell : List ℕ) → slice_get old k ≡ Some m
      → slice_get cells k ≡ Some cell → slice_get new k ≡ Some (with_cell m cell)

-- the first columns have it
pub record HasRowUpto (n : ℕ) (old new : List Measured) (cells : List (List ℕ)) : Type 0 where
  pub same : length new ≡ length old
  pub done : (k : ℕ) (m : Measured) (cell : List ℕ) → k < n → slice_get old k ≡ Some m
      → slice_get cells k ≡ Some cell → slice_get new k ≡ Some (with_cell m cell)
  pub waiting : (k : ℕ) → (k < n → ⊥) → slice_get new k ≡ slice_get old k

-- the columns have the cells of some rows
pub record AreMeasured (n : ℕ) (rows : List TableRow) (columns : List Measured) : Type 0 where
  pub many : length columns ≡ n
  pub each : (k : ℕ) → k < n → slice_get columns k ≡ Some (measured (column k rows))

-- the line of a column, with the number of its cells
unfoldable pub measured_line : (label : List ℕ) → (count : ℕ) → Measured → List ℕ
measured_line label count m = label ++ counts_text count m.unknown
    ++ limits_text m.least m.greatest ++ change_count_text m.changes

abbrev pub measured_piece : (labels : List (List ℕ)) → (count : ℕ) → List Measured → (place : ℕ)
    → List ℕ
measured_piece labels count columns place =
    measured_line (slice_index_or labels place []) count (slice_index_or columns place no_cells)
