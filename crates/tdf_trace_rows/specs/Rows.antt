-- The rows of a trace: what its columns show, at which times there is a row, and the text of rows.
-- Source: own.
use Rattle.std.specs.List.{range_with_len}
use Rattle.std.specs.Prelude.{ℕ, zero, suc, ◌+◌, Bool, false, ◌||◌, nat_eq, if◌then◌else◌, map, Option, is_some, unwrap_or, List, [], ◌++◌}
use Rattle.tdf_fixed.specs.declared.raw.Raw.{Raw}

-- the cells of a trace: what each column shows before its first cell, and by column and time
-- none, an unknown one, or a value
pub record Cells : Type 0 where
  pub columns : ℕ
  pub first : (column : ℕ) → Option Raw
  pub at : (column time : ℕ) → Option (Option Raw)

-- what a column shows just before a time: its last cell
unfoldable pub last : Cells → (column time : ℕ) → Option Raw
last cells column zero = cells.first column
last cells column (suc time) = unwrap_or (cells.at column time) (last cells column time)

-- what the columns show just before a time
unfoldable pub shown : Cells → (time : ℕ) → List (Option Raw)
shown cells time = map (λ column. last cells column time) (range_with_len 0 cells.columns)

-- one of the first n columns has a cell at this time
unfoldable pub has_cell : Cells → (time n : ℕ) → Bool
has_cell cells time zero = false
has_cell cells time (suc n) = has_cell cells time n || is_some (cells.at n time)

-- there is a row at 0, and at each time with a cell
abbrev pub is_row : Cells → (time : ℕ) → Bool
is_row cells time = nat_eq time 0 || has_cell cells time cells.columns

-- how a row is written: by its time, what the columns showed just before, and what they show
abbrev pub Line : Type 0
Line = (time : ℕ) → (before now : List (Option Raw)) → List ℕ

-- the text of the row at a time, if there is one
unfoldable pub row_text : Line → Cells → (time : ℕ) → List ℕ
row_text line cells time =
    if is_row cells time then line time (shown cells time) (shown cells (time + 1)) else []

-- the text of the rows at `count` times from a time on
unfoldable pub text_from : Line → Cells → (from count : ℕ) → List ℕ
text_from line cells from zero = []
text_from line cells from (suc count) =
    text_from line cells from count ++ row_text line cells (from + count)

-- how a trace is written: its head, its rows, and its tail by the end time
pub record Writing : Type 0 where
  pub head : List ℕ
  pub line : Line
  pub tail : (end : ℕ) → List ℕ

-- the text of a trace with an end time
abbrev pub trace_text : Writing → Cells → (end : ℕ) → List ℕ
trace_text writing cells end =
    writing.head ++ text_from writing.line cells 0 end ++ writing.tail end
