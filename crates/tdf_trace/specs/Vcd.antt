-- The text of a trace as a value change dump.
-- Source: IEEE 1364-2005, 18.2 (four-state VCD files). Own: a value has all its bits, without the
-- shortening of leading bits, and a variable of one bit is written as a vector, too.
use Rattle.std.specs.Fmt.{decimal}
use Rattle.std.specs.Ordering.{int_eq}
use Rattle.std.specs.Prelude.{ℕ, zero, suc, ◌+◌, Bool, true, false, ◌&&◌, ◌||◌, not, nat_eq, nat_lt, if◌then◌else◌, Option, Some, None, List, [], ◌∷◌, ◌++◌, codes, length, slice_index, slice_index_or}
use Rattle.tdf_base.specs.declared.resolution.Resolution.{Resolution}
use Rattle.tdf_base.specs.declared.resolution.Resolution.TheVariants.{Ps, Fs}
use Rattle.tdf_fixed.specs.Bits.{bits_text}
use Rattle.tdf_fixed.specs.declared.raw.Raw.{Raw}
use Rattle.tdf_io.specs.Bytes.{pieces_text}
use Rattle.tdf_trace_rows.specs.Rows.{Line}
use Rattle.tdf_trace.specs.Tables.{cell_in_row}

-- the character that stands for a variable
abbrev pub identifier_code : (column : ℕ) → List ℕ
identifier_code column = (33 + column) ∷ []

abbrev pub timescale : Resolution → List ℕ
timescale Ps = codes "$timescale 1 ps $end\n"
timescale Fs = codes "$timescale 1 fs $end\n"

-- `$var wire SIZE CODE LABEL $end`
abbrev pub declaration : (size column : ℕ) → (label : List ℕ) → List ℕ
declaration size column label = codes "$var wire " ++ decimal size ++ codes " "
    ++ identifier_code column ++ codes " " ++ label ++ codes " $end\n"

-- a line for each variable
abbrev pub declaration_piece : (sizes : List ℕ) → (labels : List (List ℕ)) → (column : ℕ) → List ℕ
declaration_piece sizes labels column =
    declaration (slice_index sizes column) column (slice_index_or labels column [])

unfoldable pub declarations : (sizes : List ℕ) → (labels : List (List ℕ)) → List ℕ
declarations sizes labels = pieces_text (declaration_piece sizes labels) (length labels)

unfoldable pub scope_begin : List ℕ
scope_begin = codes "$scope module top $end\n"

unfoldable pub scope_end : List ℕ
scope_end = codes "$upscope $end\n"

unfoldable pub definitions_end : List ℕ
definitions_end = codes "$enddefinitions $end\n"

unfoldable pub vcd_head : Resolution → (sizes : List ℕ) → (labels : List (List ℕ)) → List ℕ
vcd_head resolution sizes labels =
    timescale resolution ++ scope_begin ++ declarations sizes labels ++ scope_end ++ definitions_end

-- `bBITS CODE`, all bits of the value, the highest first; `bx CODE` where it is unknown
abbrev pub value_bits : Option Raw → (size : ℕ) → List ℕ
value_bits None size = codes "x"
value_bits (Some value) size = bits_text value.num size

abbrev pub value_change : Option Raw → (size column : ℕ) → List ℕ
value_change value size column =
    codes "b" ++ value_bits value size ++ codes " " ++ identifier_code column ++ codes "\n"

-- a line for each column
abbrev pub value_piece : (sizes : List ℕ) → (now : List (Option Raw)) → (column : ℕ) → List ℕ
value_piece sizes now column =
    value_change (cell_in_row now column) (slice_index sizes column) column

abbrev pub values : (sizes : List ℕ) → (now : List (Option Raw)) → List ℕ
values sizes now = pieces_text (value_piece sizes now) (length now)

-- two cells show the same
abbrev pub is_same : Option Raw → Option Raw → Bool
is_same None None = true
is_same None (Some b) = false
is_same (Some a) None = false
is_same (Some a) (Some b) = int_eq a.num b.num && nat_eq a.frac b.frac

-- some of the first n columns shows something else than before
unfoldable pub column_differs : (before now : List (Option Raw)) → (n : ℕ) → Bool
column_differs before now zero = false
column_differs before now (suc n) =
    column_differs before now n || not (is_same (cell_in_row before n) (cell_in_row now n))

-- a line for each column that shows something else
abbrev pub change_piece : (sizes : List ℕ) → (before now : List (Option Raw)) → (column : ℕ)
    → List ℕ
change_piece sizes before now column =
    if is_same (cell_in_row before column) (cell_in_row now column) then []
    else value_piece sizes now column

abbrev pub changes_text : (sizes : List ℕ) → (before now : List (Option Raw)) → List ℕ
changes_text sizes before now = pieces_text (change_piece sizes before now) (length now)

-- `#TIME` in counts of the resolution
abbrev pub time_line : (time : ℕ) → List ℕ
time_line time = codes "#" ++ decimal time ++ codes "\n"

-- all values at 0; later the changes, and nothing where there is none
unfoldable pub vcd_line : (sizes : List ℕ) → Line
vcd_line sizes time before now =
    if nat_eq time 0
    then time_line 0 ++ codes "$dumpvars\n" ++ values sizes now ++ codes "$end\n"
    else if column_differs before now (length now)
    then time_line time ++ changes_text sizes before now
    else []

-- the end time, where something was before it
unfoldable pub vcd_tail : (end : ℕ) → List ℕ
vcd_tail end = if nat_lt 0 end then time_line end else []
