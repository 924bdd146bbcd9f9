-- The columns get the samples that wait, one after the other.
-- Source: own.
use Rattle.std.specs.Prelude.{◌≡◌, ◌<◌, ◌≤◌, ℕ, ℤ, None, Option, Some, List, [], length, slice_get}
use Rattle.tdf_bind_connections.specs.declared.traces.TraceRow.{TraceRow}
use Rattle.tdf_bind_tables.specs.FlatTables.{FlatTablesOf}
use Rattle.tdf_saved.specs.State.{ColumnStateOf}
use Rattle.tdf_sim_traces.specs.Signals.{driven_of}
use Rattle.tdf_trace.specs.Starts.{IsLaterOf}
use Rattle.tdf_trace.specs.Tracked.{TrackedOf}

-- the signal of samples that a trace shows, where a port drives it
abbrev pub driven_in : FlatTablesOf → Option TraceRow → Option ℕ
driven_in tables None = None
driven_in tables (Some row) = driven_of tables row

abbrev pub driven_at : FlatTablesOf → (column : ℕ) → Option ℕ
driven_at tables column = driven_in tables (slice_get tables.traces column)

-- the numbers that wait for it
abbrev pub IsLaterFor : Option ℕ → List TrackedOf → List ℤ → Type 0
IsLaterFor None list nums = nums ≡ []
IsLaterFor (Some signal) list nums = IsLaterOf signal list nums

-- a state has got them
pub record HasLater (tables : FlatTablesOf) (list : List TrackedOf) (column : ℕ)
    (old : ColumnStateOf) (new : Option ColumnStateOf) : Type 0 where
  pub nums : List ℤ
  pub later : IsLaterFor (driven_at tables column) list nums
  pub is : new ≡ Some (record old { later = nums })

-- the first k states have
pub record HaveLater (tables : FlatTablesOf) (list : List TrackedOf) (k : ℕ)
    (old new : List ColumnStateOf) : Type 0 where
  pub long : length new ≡ length old
  pub done : (j : ℕ) (s : ColumnStateOf) → j < k → slice_get old j ≡ Some s
      → HasLater tables list j s (slice_get new j)
  pub rest : (j : ℕ) → k ≤ j → slice_get new j ≡ slice_get old j
