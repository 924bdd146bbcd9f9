-- The text of a trace as a table: a head, a line for each row, and no tail.
-- Source: own.
use Rattle.std.specs.Prelude.{ℕ, Option, Some, None, List, [], ◌++◌, codes, length, slice_index_or}
use Rattle.tdf_base.specs.declared.resolution.Resolution.{Resolution}
use Rattle.tdf_fixed.specs.Decimal.{seconds_text_at, value_text}
use Rattle.tdf_fixed.specs.declared.raw.Raw.{Raw}
use Rattle.tdf_io.specs.Bytes.{pieces_text}
use Rattle.tdf_trace_rows.specs.Rows.{Line, Writing}

-- a value as an exact decimal, or `*` where it is unknown
abbrev pub cell_text : Option Raw → List ℕ
cell_text None = codes "*"
cell_text (Some value) = value_text value.num value.frac

-- what a column shows in a row
abbrev pub cell_in_row : List (Option Raw) → (column : ℕ) → Option Raw
cell_in_row row column = slice_index_or row column None

-- `%time LABEL LABEL ..`
abbrev pub label_piece : List (List ℕ) → (column : ℕ) → List ℕ
label_piece labels column = codes " " ++ slice_index_or labels column []

unfoldable pub table_head : List (List ℕ) → List ℕ
table_head labels = codes "%time" ++ pieces_text (label_piece labels) (length labels) ++ codes "\n"

-- `TIME CELL CELL ..`, the time in seconds
abbrev pub cell_piece : List (Option Raw) → (column : ℕ) → List ℕ
cell_piece row column = codes " " ++ cell_text (cell_in_row row column)

unfoldable pub table_line : Resolution → Line
table_line resolution time before now =
    seconds_text_at resolution time ++ pieces_text (cell_piece now) (length now) ++ codes "\n"

-- a table of columns with these labels
abbrev pub table_writing : Resolution → List (List ℕ) → Writing
table_writing resolution labels = record {
  head = table_head labels;
  line = table_line resolution;
  tail = λ end. [];
}
