-- What a trace stands for while it is written: for which cells its rows are written up to a time.
-- Source: own.
use Rattle.std.specs.Io.KnownBytes.{Appends}
use Rattle.std.specs.Prelude.{◌≡◌, ◌≢◌, ◌⊎◌, ℕ, ◌<◌, ◌≤◌, false, Option, Some, None, List, [], length, slice_get, Result, MatchResult}
use Rattle.tdf_trace_rows.specs.Rows.{Cells, is_row, last}
use Rattle.tdf_io.specs.Bytes.{AppendsFront, WritesText}
use Rattle.tdf_io.specs.declared.writing.SinkErr.{SinkErr}
use Rattle.tdf_trace_rows.specs.Noted.{cells_noted, with_noted_cell}
use Rattle.tdf_trace_rows.specs.declared.cell.Cell.{Cell}
use Rattle.tdf_trace.specs.Columns.{ColumnSeen, held_at}
use Rattle.tdf_trace.specs.Writings.{AboutSeen, first_value, rest_text, rows_text}
use Rattle.tdf_trace.specs.declared.about.Variable.{Variable}
use Rattle.tdf_trace.specs.declared.stage.Stage.{Stage}
use Rattle.tdf_trace.specs.declared.stage.Stage.TheVariants.{Broken, New, Open}

-- the columns, and the time below which all rows are written
pub record RowsSeen : Type 0 where
  pub columns : List ColumnSeen
  pub upto : ℕ

-- what contracts see of a trace
pub record TraceSeen : Type 0 where
  pub about : AboutSeen
  pub stage : Stage
  pub rows : RowsSeen

-- the columns show what these cells show below `upto`, and hold all cells from there on
pub record Stands (cells : Cells) (rows : RowsSeen) : Type 0 where
  pub count : length rows.columns ≡ cells.columns
  pub held : (place time : ℕ) (column : ColumnSeen) → slice_get rows.columns place ≡ Some column
      → rows.upto ≤ time → held_at column.held time ≡ cells.at place time
  pub shown : (place : ℕ) (column : ColumnSeen) → slice_get rows.columns place ≡ Some column
      → column.shown ≡ last cells place rows.upto

-- no cell yet, of columns that begin with these values
abbrev pub no_cells : List Variable → Cells
no_cells variables = cells_noted (length variables) (first_value variables) []

-- after a call that writes a trace is open, or broken where the call was refused
abbrev pub IsStageAfter : {T : Type 0} → Result T SinkErr → Stage → Type 0
IsStageAfter result stage = MatchResult result (λ _. stage ≡ Open) (λ _. stage ≡ Broken)

-- a trace before its head is written, without a cell
pub record IsNew (trace : TraceSeen) (of : AboutSeen) : Type 0 where
  pub about : trace.about ≡ of
  pub stage : trace.stage ≡ New
  pub start : trace.rows.upto ≡ 0
  pub stands : Stands (no_cells of.variables) trace.rows

-- a cell was taken: rows that stand for some cells stand for these with it
abbrev pub TakesCell : Cell → (old new : RowsSeen) → Type 0
TakesCell cell old new =
    (cells : Cells) → Stands cells old → Stands (with_noted_cell cells cell) new

-- no cell from a time on and below another is only announced
abbrev pub AreGiven : Cells → (from end : ℕ) → Type 0
AreGiven cells from end = (column time : ℕ) → column < cells.columns → from ≤ time
    → time < end → cells.at column time ≢ Some None

-- rows were written: the sink took them, each of their cells was given, and the trace stands for
-- the same cells
pub record AdvancesRows (about : AboutSeen) (cells : Cells) (old new : RowsSeen)
    (before after : Option (List ℕ)) : Type 0 where
  pub later : old.upto ≤ new.upto
  pub stands : Stands cells new
  pub given : AreGiven cells old.upto new.upto
  pub took : Appends before after (rows_text about cells old.upto new.upto)

abbrev pub WritesRows : (old new : TraceSeen) → (before after : Option (List ℕ)) → Type 0
WritesRows old new before after = (cells : Cells) → Stands cells old.rows
    → AdvancesRows old.about cells old.rows new.rows before after

-- the sink took a front part of the rows below a limit
abbrev pub WritesFront : TraceSeen → (limit : ℕ) → (before after : Option (List ℕ)) → Type 0
WritesFront trace limit before after = (cells : Cells) → Stands cells trace.rows
    → AppendsFront before after (rows_text trace.about cells trace.rows.upto limit)

-- the next row, the first from a time on, has a cell that is only announced
pub record NextRowWaits (cells : Cells) (upto limit : ℕ) : Type 0 where
  pub time : ℕ
  pub column : ℕ
  pub later : upto ≤ time
  pub below : time < limit
  pub next : (earlier : ℕ) → upto ≤ earlier → earlier < time → is_row cells earlier ≡ false
  pub inside : column < cells.columns
  pub waits : cells.at column time ≡ Some None

-- all rows below the limit are written, or those up to the first that waits
abbrev pub AreWrittenTo : RowsSeen → (limit : ℕ) → Type 0
AreWrittenTo rows limit = (cells : Cells) → Stands cells rows
    → (limit ≤ rows.upto) ⊎ NextRowWaits cells rows.upto limit

-- a writer writes the rows below the end that aren't written yet, and the tail
abbrev pub WritesRest : {S T : Type 0} → (S → Option (List ℕ)) → (S → ℕ) → (old new : S)
    → TraceSeen → (end : ℕ) → Result T SinkErr → Type 0
WritesRest taken faults old new trace end result = (cells : Cells) → Stands cells trace.rows
    → WritesText taken faults old new (rest_text trace.about cells trace.rows.upto end) result
