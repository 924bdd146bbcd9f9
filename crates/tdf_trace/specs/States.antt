-- The states of the columns of a trace, and the cells that states of columns say.
-- Source: own.
use Rattle.std.specs.List.{flat_map, zip}
use Rattle.std.specs.Prelude.{◌≡◌, ◌≤◌, ℕ, ℤ, Option, None, Some, is_some, option_map, List, [], ◌∷◌, length, map, slice_get}
use Rattle.tdf_fixed.specs.declared.raw.Raw.{Raw}
use Rattle.tdf_saved.specs.State.{ColumnStateOf}
use Rattle.tdf_saved.specs.declared.state.Stamp.{Stamp}
use Rattle.tdf_trace.specs.Columns.{ColumnSeen}
use Rattle.tdf_trace.specs.Stands.{RowsSeen, Stands}
use Rattle.tdf_trace.specs.declared.about.Variable.{Variable}
use Rattle.tdf_trace.specs.declared.column.Held.{Held}
use Rattle.tdf_trace_rows.specs.Rows.{Cells, last}
use Rattle.tdf_trace_states.specs.ColumnStates.{DoRise, IsColumnState, carry_in, number_at, stamped_cell}

-- ---- the states of the columns of a trace

-- a cell with a value as a sample
abbrev pub stamp_of : (time : ℕ) → Option Raw → List Stamp
stamp_of time None = []
stamp_of time (Some value) = record { time = time; num = value.num } ∷ []

abbrev pub stamps_held : List Held → List Stamp
stamps_held held = flat_map (λ (x : Held). stamp_of x.time x.value) held

-- what the column shows, and its cells with a value that wait
abbrev pub column_state : ColumnSeen → ColumnStateOf
column_state column = record {
  carry = option_map (λ (v : Raw). v.num) column.shown;
  samples = stamps_held column.held;
  later = [];
}

abbrev pub column_states : RowsSeen → List ColumnStateOf
column_states rows = map column_state rows.columns

-- the number of a cell, if it has a value
abbrev pub cell_number : Option (Option Raw) → Option ℤ
cell_number None = None
cell_number (Some None) = None
cell_number (Some (Some value)) = Some value.num

-- the state of a column of some cells from a time on: what it shows there, and its cells with a
-- value from then on, at rising times
pub record IsStateOfColumn (cells : Cells) (column from : ℕ) (s : ColumnStateOf) : Type 0 where
  pub carry : s.carry ≡ option_map (λ (v : Raw). v.num) (last cells column from)
  pub samples : (time : ℕ) → from ≤ time
      → number_at s.samples time ≡ cell_number (cells.at column time)
  pub first : (i : ℕ) (x : Stamp) → slice_get s.samples i ≡ Some x → from ≤ x.time
  pub rising : DoRise s.samples
  pub later : s.later ≡ []

-- the states of all columns
abbrev pub AreStatesOf : RowsSeen → List ColumnStateOf → Type 0
AreStatesOf rows states = (cells : Cells) → Stands cells rows
    → (column : ℕ) (s : ColumnStateOf) → slice_get states column ≡ Some s
    → IsStateOfColumn cells column rows.upto s

-- ---- the cells that states say

-- what a variable's column shows before all else
abbrev pub first_stated : Option (Variable × ColumnStateOf) → Option Raw
first_stated None = None
first_stated (Some p) = carry_in p.0.format p.1

-- its cell of a time
abbrev pub cell_stated : Option (Variable × ColumnStateOf) → (time : ℕ) → Option (Option Raw)
cell_stated None time = None
cell_stated (Some p) time = stamped_cell p.0.format p.1 time

-- the cells of the columns of variables, by their states
abbrev pub cells_of_states : List Variable → List ColumnStateOf → Cells
cells_of_states variables states = record {
  columns = length variables;
  first = λ column. first_stated (slice_get (zip variables states) column);
  at = λ column time. cell_stated (slice_get (zip variables states) column) time;
}

-- ---- the states of variables at a time

-- one for each; those that begin with a value are of event signals
pub record AreColumnStates (variables : List Variable) (time : ℕ) (states : List ColumnStateOf)
    : Type 0 where
  pub long : length states ≡ length variables
  pub each : (n : ℕ) (v : Variable) (s : ColumnStateOf) → slice_get variables n ≡ Some v
      → slice_get states n ≡ Some s → IsColumnState v.format (is_some v.first) time s

-- no sample stands below a time
abbrev pub AreStampedFrom : (from : ℕ) → List ColumnStateOf → Type 0
AreStampedFrom from states = (n : ℕ) (s : ColumnStateOf) → slice_get states n ≡ Some s
    → (i : ℕ) (x : Stamp) → slice_get s.samples i ≡ Some x → from ≤ x.time

-- a state without what has no time yet
abbrev pub known_part : ColumnStateOf → ColumnStateOf
known_part s = record { carry = s.carry; samples = s.samples; later = [] }
