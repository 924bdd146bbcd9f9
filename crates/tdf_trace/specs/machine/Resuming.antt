-- The columns of a trace that goes on from states, made one after the other.
-- Source: own.
use Rattle.std.specs.Prelude.{◌≡◌, ◌<◌, ℕ, Some, List, length, map, slice_get}
use Rattle.tdf_fixed.specs.declared.format.Format.{Format}
use Rattle.tdf_saved.specs.State.{ColumnStateOf}
use Rattle.tdf_saved.specs.declared.state.Stamp.{Stamp}
use Rattle.tdf_trace.specs.Columns.{ColumnSeen}
use Rattle.tdf_trace.specs.declared.about.Variable.{Variable}
use Rattle.tdf_trace.specs.declared.column.Held.{Held}
use Rattle.tdf_trace_states.specs.ColumnStates.{carry_in, sample_in}

-- a sample as a cell that waits
abbrev pub held_in : Format → Stamp → Held
held_in format x = record { time = x.time; value = Some (sample_in format x.num) }

-- a column that goes on from a state
abbrev pub column_in : Format → ColumnStateOf → ColumnSeen
column_in format s = record {
  held = map (held_in format) s.samples;
  before = carry_in format s;
  shown = carry_in format s;
}

-- the first n columns
pub record AreColumnsIn (variables : List Variable) (states : List ColumnStateOf) (n : ℕ)
    (columns : List ColumnSeen) : Type 0 where
  pub long : length columns ≡ n
  pub each : (k : ℕ) (v : Variable) (s : ColumnStateOf) → k < n
      → slice_get variables k ≡ Some v → slice_get states k ≡ Some s
      → slice_get columns k ≡ Some (column_in v.format s)
