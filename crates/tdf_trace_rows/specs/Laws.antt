-- What holds of rows and of their text.
-- Source: own.
use Rattle.std.specs.List.{flat_map, range_with_len}
use Rattle.std.specs.Prelude.{◌≡◌, ℕ, ◌+◌, ◌-◌, ◌<◌, ◌≤◌, false, if◌then◌else◌, Option, Some, None, List, [], ◌∷◌, ◌++◌, filter}
use Rattle.tdf_fixed.specs.declared.raw.Raw.{Raw}
use Rattle.tdf_trace_rows.specs.Noted.{is_cell_of, cell_noted}
use Rattle.tdf_trace_rows.specs.Rows.{Cells, Line, is_row, last, shown, text_from}
use Rattle.tdf_trace_rows.specs.declared.cell.Cell.{Cell}

-- the times of the rows below an end, in order
abbrev pub row_times : Cells → (end : ℕ) → List ℕ
row_times cells end = filter (is_row cells) (range_with_len 0 end)

-- the text of the rows below an end is one line for each of these times
abbrev pub AreRowTimes : Type 0
AreRowTimes = (line : Line) (cells : Cells) (end : ℕ) → text_from line cells 0 end
    ≡ flat_map (λ time. line time (shown cells time) (shown cells (time + 1))) (row_times cells end)

-- no cell of a column from a time on and below another
abbrev pub HasNoCell : Cells → (column from end : ℕ) → Type 0
HasNoCell cells column from end =
    (time : ℕ) → from ≤ time → time < end → cells.at column time ≡ None

-- what a column shows just before a time is its last cell, or what it began with
pub record ShowsLast (cells : Cells) (column end : ℕ) : Type 0 where
  pub cell : (time : ℕ) (value : Option Raw) → time < end → cells.at column time ≡ Some value
      → HasNoCell cells column (time + 1) end → last cells column end ≡ value
  pub none : HasNoCell cells column 0 end → last cells column end ≡ cells.first column

abbrev pub IsLastCell : Type 0
IsLastCell = (cells : Cells) (column end : ℕ) → ShowsLast cells column end

-- cells that agree below a time
pub record Agree (one other : Cells) (below : ℕ) : Type 0 where
  pub columns : one.columns ≡ other.columns
  pub first : (column : ℕ) → column < one.columns → one.first column ≡ other.first column
  pub cells : (column time : ℕ) → column < one.columns → time < below
      → one.at column time ≡ other.at column time

-- have the same text of the rows below it
abbrev pub HaveSameText : Type 0
HaveSameText = (line : Line) (one other : Cells) (below from count : ℕ)
    → Agree one other below → from + count ≤ below
    → text_from line one from count ≡ text_from line other from count

-- the rows before a time, and the others
abbrev pub SplitsText : Type 0
SplitsText = (line : Line) (cells : Cells) (from time end : ℕ) → from ≤ time → time ≤ end
    → text_from line cells from (end - from)
    ≡ text_from line cells from (time - from) ++ text_from line cells time (end - time)

-- times without a row have no text
abbrev pub WithoutRow : Type 0
WithoutRow = (line : Line) (cells : Cells) (from count : ℕ)
    → ((time : ℕ) → from ≤ time → time < from + count → is_row cells time ≡ false)
    → text_from line cells from count ≡ []

-- cells state by state, of which each changes nothing of the one before below a mark that doesn't
-- fall
pub record AreCellsSteady (cells : ℕ → Cells) (mark : ℕ → ℕ) : Type 0 where
  pub step : (n : ℕ) → Agree (cells n) (cells (n + 1)) (mark n)
  pub rising : (n : ℕ) → mark n ≤ mark (n + 1)

-- then no later state changes anything below it
abbrev pub StaysBelow : Type 0
StaysBelow = (cells : ℕ → Cells) (mark : ℕ → ℕ) → AreCellsSteady cells mark
    → (n more : ℕ) → Agree (cells n) (cells (more + n)) (mark n)

-- one cell more that is noted
abbrev pub NotedLast : Type 0
NotedLast = (cells : List Cell) (cell : Cell) (column time : ℕ)
    → cell_noted (cells ++ cell ∷ []) column time
    ≡ (if is_cell_of cell column time then Some cell.value else cell_noted cells column time)
