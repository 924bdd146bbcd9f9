-- Rows as contracts see them, and the line of one.
-- Source: own.
use Rattle.std.specs.Prelude.{◌≡◌, ℕ, ◌≤◌, List, [], length, slice_get, Some}
use Rattle.tdf_base.specs.Limits.{most_traces}
use Rattle.tdf_trace.specs.Columns.{ColumnSeen, HasFewPlaces, before_row, shown_row}
use Rattle.tdf_trace.specs.Stands.{RowsSeen}
use Rattle.tdf_trace.specs.Writings.{AboutSeen, writing_of}
use Rattle.tdf_trace.specs.declared.about.Variable.{Variable}
use Rattle.tdf_trace.specs.declared.rows.Rows.{Rows}

abbrev pub rows_seen : Rows → RowsSeen
rows_seen rows = record { columns = rows.columns.items; upto = rows.upto }

-- the line of the row that the columns show
abbrev pub row_line : AboutSeen → List ColumnSeen → (time : ℕ) → List ℕ
row_line about columns time =
    (writing_of about).line time (before_row columns) (shown_row columns)

-- the columns are those of the variables
pub record Fits (about : AboutSeen) (columns : List ColumnSeen) : Type 0 where
  pub same : length about.variables ≡ length columns
  pub few : length columns ≤ most_traces

-- what the columns show can be written
abbrev pub AreShown : List ColumnSeen → Type 0
AreShown columns =
    (place : ℕ) (column : ColumnSeen) → slice_get columns place ≡ Some column
    → HasFewPlaces column.shown

-- the column of a variable before its first cell
abbrev pub fresh : Variable → ColumnSeen
fresh variable = record { held = []; before = variable.first; shown = variable.first }
