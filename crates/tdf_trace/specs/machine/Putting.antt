-- How a cell is put among those that wait.
-- Source: own.
use Rattle.std.specs.Prelude.{◌≡◌, ℕ, ◌<◌, ◌≤◌, nat_eq, nat_lt, if◌then◌else◌, Some, List, [], ◌∷◌, length, slice_get}
use Rattle.tdf_trace.specs.Columns.{ColumnSeen}
use Rattle.tdf_trace.specs.declared.column.Held.{Held}

-- a cell more, or a new value for one
unfoldable pub put : Held → List Held → List Held
put x [] = x ∷ []
put x (y ∷ ys) = if nat_lt x.time y.time then x ∷ (y ∷ ys)
    else if nat_eq x.time y.time then x ∷ ys
    else y ∷ put x ys

-- a cell before another has an earlier time
abbrev pub AreInOrder : List Held → Type 0
AreInOrder list = (i j : ℕ) (x y : Held) → i < j → slice_get list i ≡ Some x
    → slice_get list j ≡ Some y → x.time < y.time

-- the place of a time
pub record IsPlace (list : List Held) (time place : ℕ) : Type 0 where
  pub within : place ≤ length list
  pub before : (i : ℕ) (x : Held) → i < place → slice_get list i ≡ Some x → x.time < time
  pub after : (i : ℕ) (x : Held) → place ≤ i → slice_get list i ≡ Some x → time ≤ x.time

-- the column with a cell put
abbrev pub column_with : Held → ColumnSeen → ColumnSeen
column_with x column = record {
  held = put x column.held;
  before = column.before;
  shown = column.shown;
}

-- one cell was put into one column
pub record IsPut (old new : List ColumnSeen) (place : ℕ) (x : Held) : Type 0 where
  pub same : length new ≡ length old
  pub here : (column : ColumnSeen) → slice_get old place ≡ Some column
      → slice_get new place ≡ Some (column_with x column)
  pub others : (c : ℕ) → (c ≡ place → ⊥) → slice_get new c ≡ slice_get old c
