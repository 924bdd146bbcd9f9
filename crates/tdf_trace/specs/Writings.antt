-- How a trace is written, by its kind, the model's resolution and its columns.
-- Source: own.
use Rattle.std.specs.Prelude.{◌≡◌, ℕ, ◌-◌, ◌<◌, ◌≤◌, false, Option, Some, List, ◌++◌, length, map, slice_get}
use Rattle.tdf_base.specs.Limits.{most_traces}
use Rattle.tdf_base.specs.declared.resolution.Resolution.{Resolution}
use Rattle.tdf_fixed.specs.declared.raw.Raw.{Raw}
use Rattle.tdf_trace_rows.specs.Rows.{Cells, Writing, is_row, text_from, trace_text}
use Rattle.tdf_trace.specs.Columns.{HasFewPlaces}
use Rattle.tdf_trace.specs.Tables.{cell_in_row, table_writing}
use Rattle.tdf_trace.specs.Vcd.{vcd_head, vcd_line, vcd_tail}
use Rattle.tdf_trace.specs.declared.about.Variable.{Variable}
use Rattle.tdf_trace_rows.specs.declared.kinds.TraceKind.{TraceKind}
use Rattle.tdf_trace_rows.specs.declared.kinds.TraceKind.TheVariants.{Table, Vcd}

-- what a trace is of: its kind, the resolution of its times, and its variables by column
pub record AboutSeen : Type 0 where
  pub kind : TraceKind
  pub resolution : Resolution
  pub variables : List Variable

abbrev pub about_of : TraceKind → Resolution → List Variable → AboutSeen
about_of kind resolution variables = record {
  kind = kind;
  resolution = resolution;
  variables = variables;
}

abbrev pub labels_of : List Variable → List (List ℕ)
labels_of variables = map (λ v. v.label) variables

abbrev pub sizes_of : List Variable → List ℕ
sizes_of variables = map (λ v. v.format.wl) variables

-- a value change dump of these variables
abbrev pub vcd_writing : Resolution → List Variable → Writing
vcd_writing resolution variables = record {
  head = vcd_head resolution (sizes_of variables) (labels_of variables);
  line = vcd_line (sizes_of variables);
  tail = vcd_tail;
}

abbrev pub writing_by : TraceKind → Resolution → List Variable → Writing
writing_by Table resolution variables = table_writing resolution (labels_of variables)
writing_by Vcd resolution variables = vcd_writing resolution variables

abbrev pub writing_of : AboutSeen → Writing
writing_of about = writing_by about.kind about.resolution about.variables

-- the head of a trace
abbrev pub head_of : AboutSeen → List ℕ
head_of about = (writing_of about).head

-- what a column shows before its first cell
abbrev pub first_value : List Variable → (column : ℕ) → Option Raw
first_value variables column = cell_in_row (map (λ v. v.first) variables) column

-- the text of the rows from a time on and below another
abbrev pub rows_text : AboutSeen → Cells → (from end : ℕ) → List ℕ
rows_text about cells from end = text_from (writing_of about).line cells from (end - from)

-- and the tail after those below an end
abbrev pub rest_text : AboutSeen → Cells → (from end : ℕ) → List ℕ
rest_text about cells from end = rows_text about cells from end ++ (writing_of about).tail end

-- what is written of a trace when its rows below a time are
abbrev pub written_text : AboutSeen → Cells → (upto : ℕ) → List ℕ
written_text about cells upto = head_of about ++ rows_text about cells 0 upto

-- a trace can have these variables: not too many, and what they begin with can be written
pub record CanBeTraced (variables : List Variable) : Type 0 where
  pub few : length variables ≤ most_traces
  pub first : (place : ℕ) (variable : Variable) → slice_get variables place ≡ Some variable
      → HasFewPlaces variable.first

-- what was written up to a time and then the rest are the whole text of the trace, where no row
-- from the end on was written
abbrev pub MakesWhole : Type 0
MakesWhole = (about : AboutSeen) (cells : Cells) (upto end : ℕ)
    → ((time : ℕ) → end ≤ time → time < upto → is_row cells time ≡ false)
    → written_text about cells upto ++ rest_text about cells upto end
    ≡ trace_text (writing_of about) cells end
