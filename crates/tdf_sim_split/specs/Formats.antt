-- What a run shows is of the formats of its signals, where what it begins with is.
-- Source: own.
use Rattle.std.specs.Prelude.{◌≡◌, ℕ, Bool, false, All, List, Some, slice_get}
use Rattle.tdf_bind.specs.Flat.{IsFlatOf}
use Rattle.tdf_bind.specs.declared.model.Flat.{Flat}
use Rattle.tdf_bind_connections.specs.declared.traces.TraceRow.{TraceRow}
use Rattle.tdf_bind_invariants.specs.Formats.{IsSoundModel}
use Rattle.tdf_bind_invariants.specs.Limits.{AreWithinLimits}
use Rattle.tdf_bind_tables.specs.FlatTables.{FlatTablesOf}
use Rattle.tdf_dynamic_first.specs.declared.first.First.{First}
use Rattle.tdf_events.specs.Side.{SideOf}
use Rattle.tdf_fixed.specs.declared.raw.Raw.{Raw}
use Rattle.tdf_lang_tree.specs.Pure.{PureTree}
use Rattle.tdf_saved.specs.State.{SnapshotOf}
use Rattle.tdf_sim_history.specs.Answers.{AreAnswers}
use Rattle.tdf_sim_history.specs.Columns.{ColumnStart, Stamp, start_of}
use Rattle.tdf_sim_history.specs.Rules.{rules_of, start_world}
use Rattle.tdf_sim_history.specs.World.{Change, World}
use Rattle.tdf_sim_resumed.specs.Formats.{AreInFormatsTo}
use Rattle.tdf_sim_resumed.specs.Snapshot.{IsSnapshot}
use Rattle.tdf_sim_resumed.specs.Starting.{resumed_world, row_of_trace}
use Rattle.tdf_sim_resumed.specs.Valid.{IsNumberFor, IsValid}
use Rattle.tdf_sim_split.specs.Columns.{EventsAreThere, IsInFormats}
use Rattle.tdf_sim_split.specs.Laws.{AreSound}

-- the numbers that a column of a trace begins with are of the format of its signal; samples ahead
-- are those of a signal of samples
pub record BeginsInFormat (tables : FlatTablesOf) (row : TraceRow) (s : ColumnStart) : Type 0 where
  pub carry : (value : Raw) → s.carry ≡ Some value
      → IsNumberFor (row_of_trace tables row) value.num
  pub stamps : All (λ (x : Stamp). IsNumberFor (row_of_trace tables row) x.value.num) s.stamps
  pub ahead : row.event ≡ false
      → All (λ (value : Raw). IsNumberFor (row_of_trace tables row) value.num) s.ahead

-- so is what all columns begin with
abbrev pub BeginInFormats : FlatTablesOf → (shown : List ColumnStart) → Type 0
BeginInFormats tables shown = (n : ℕ) (row : TraceRow) → slice_get tables.traces n ≡ Some row
    → BeginsInFormat tables row (start_of shown n)

-- then what a snapshot of the run shows is of the formats of its signals, where event signals have
-- values of theirs
abbrev pub FormatsAreKept : Type 0
FormatsAreKept = (model : PureTree) (flat : Flat) (start w : World SideOf) (time budget : ℕ)
    → (vcd : Bool) (s : SnapshotOf) → IsSoundModel model → IsFlatOf model flat
    → AreWithinLimits flat → EventsAreThere flat.tables → AreSound flat start
    → AreAnswers model flat (rules_of model flat) start time
    → BeginInFormats flat.tables start.shown → AreInFormatsTo model flat start time
    → IsSnapshot model flat start w time budget vcd s
    → IsInFormats model flat start time s.columns

-- a run from its text begins so
abbrev pub TextsBeginInFormats : Type 0
TextsBeginInFormats = (model : PureTree) (flat : Flat) (firsts : List First)
    → (ahead : List (List Change)) (turns time : ℕ) → IsSoundModel model → IsFlatOf model flat
    → AreWithinLimits flat → EventsAreThere flat.tables
    → AreInFormatsTo model flat (start_world model flat firsts ahead turns) time
    → BeginInFormats flat.tables (start_world model flat firsts ahead turns).shown

-- and so does the world that a valid snapshot says
abbrev pub ResumedBeginInFormats : Type 0
ResumedBeginInFormats = (model : PureTree) (flat : Flat) (firsts : List First) (s : SnapshotOf)
    → (ahead : List (List Change)) → IsValid model flat firsts s
    → BeginInFormats flat.tables (resumed_world model flat firsts s ahead).shown
