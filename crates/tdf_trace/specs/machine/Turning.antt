-- How columns go to the next row.
-- Source: own.
use Rattle.std.specs.Prelude.{◌≡◌, ℕ, ◌+◌, ◌-◌, ◌^◌, ◌<◌, ◌≤◌, Bool, true, false, nat_eq, ◌&&◌, not, if◌then◌else◌, Option, Some, is_some, List, [], ◌∷◌, length, slice_get}
use Rattle.tdf_fixed.specs.declared.raw.Raw.{Raw}
use Rattle.tdf_trace.specs.Columns.{ColumnSeen, HasFewPlaces}
use Rattle.tdf_trace.specs.Stands.{RowsSeen}
use Rattle.tdf_trace.specs.declared.column.Held.{Held}

-- cells in rising order of their times, from a time on
unfoldable pub Rising : (from : ℕ) → List Held → Type 0
Rising from [] = Unit {0}
Rising from (x ∷ xs) = (from ≤ x.time) × Rising (x.time + 1) xs

-- cells of which each can be written
unfoldable pub HaveFewPlaces : List Held → Type 0
HaveFewPlaces [] = Unit {0}
HaveFewPlaces (x ∷ xs) = HasFewPlaces x.value × HaveFewPlaces xs

-- a column whose cells wait in order from a time on, and whose cells can be written
pub record IsSound (from : ℕ) (column : ColumnSeen) : Type 0 where
  pub rising : Rising from column.held
  pub few : HaveFewPlaces column.held
  pub shown : HasFewPlaces column.shown

abbrev pub AreSound : (from : ℕ) → List ColumnSeen → Type 0
AreSound from columns =
    (place : ℕ) (column : ColumnSeen) → slice_get columns place ≡ Some column
    → IsSound from column

-- the time of the first cell, or the limit
abbrev pub front_time : List Held → (limit : ℕ) → ℕ
front_time [] limit = limit
front_time (x ∷ xs) limit = x.time

-- the first cell is of this time and only announced
abbrev pub waits : List Held → (time : ℕ) → Bool
waits [] time = false
waits (x ∷ xs) time = nat_eq x.time time && not (is_some x.value)

-- the cells after a time, and what is shown then
abbrev pub held_after : List Held → (time : ℕ) → List Held
held_after [] time = []
held_after (x ∷ xs) time = if nat_eq x.time time then xs else x ∷ xs

abbrev pub shown_after : List Held → (time : ℕ) → Option Raw → Option Raw
shown_after [] time shown = shown
shown_after (x ∷ xs) time shown = if nat_eq x.time time then x.value else shown

-- a column goes to the row of a time
abbrev pub turned : (time : ℕ) → ColumnSeen → ColumnSeen
turned time column = record {
  held = held_after column.held time;
  before = column.shown;
  shown = shown_after column.held time column.shown;
}

pub record AreTurned (time n : ℕ) (old new : List ColumnSeen) : Type 0 where
  pub same : length new ≡ length old
  pub done : (place : ℕ) (column : ColumnSeen) → place < n → slice_get old place ≡ Some column
      → slice_get new place ≡ Some (turned time column)
  pub waiting : (place : ℕ) → n ≤ place → slice_get new place ≡ slice_get old place

-- the least time of a first cell among the first n columns, or the limit
pub record IsNext (columns : List ColumnSeen) (n limit time : ℕ) : Type 0 where
  pub within : time ≤ limit
  pub least : (place : ℕ) (column : ColumnSeen) → place < n
      → slice_get columns place ≡ Some column → time ≤ front_time column.held limit
  pub found : time < limit → (place : ℕ) × (column : ColumnSeen) × (place < n)
      × (slice_get columns place ≡ Some column) × (front_time column.held limit ≡ time)

-- cells of which none is only announced
unfoldable pub HaveValues : List Held → Type 0
HaveValues [] = Unit {0}
HaveValues (x ∷ xs) = (is_some x.value ≡ true) × HaveValues xs

abbrev pub AreAllGiven : List ColumnSeen → Type 0
AreAllGiven columns =
    (place : ℕ) (column : ColumnSeen) → slice_get columns place ≡ Some column
    → HaveValues column.held

-- what is kept of the cells: the least time of a first one, or the last of all times where there is
-- none, and whether some may be only announced
pub record AreKept (columns : List ColumnSeen) (least : ℕ) (announces : Bool) : Type 0 where
  pub next : IsNext columns (length columns) (2 ^ 64 - 1) least
  pub given : announces ≡ false → AreAllGiven columns

-- the next row: the one at 0 where nothing is written, else that of the least first cell below the
-- limit, or the limit
pub record IsNextRow (rows : RowsSeen) (limit time : ℕ) : Type 0 where
  pub first : rows.upto ≡ 0 → time ≡ 0
  pub later : 0 < rows.upto → IsNext rows.columns (length rows.columns) limit time

-- some column waits for a cell of a time, or none of the first n
pub record OneWaits (columns : List ColumnSeen) (time : ℕ) : Type 0 where
  pub place : ℕ
  pub column : ColumnSeen
  pub at : slice_get columns place ≡ Some column
  pub waiting : waits column.held time ≡ true

abbrev pub NoneWaits : List ColumnSeen → (time n : ℕ) → Type 0
NoneWaits columns time n = (place : ℕ) (column : ColumnSeen) → place < n
    → slice_get columns place ≡ Some column → waits column.held time ≡ false
