-- What a snapshot has of a trace that shows a run.
-- Source: own.
use Rattle.std.specs.Prelude.{ℕ, List}
use Rattle.tdf_bind.specs.Flat.{IsFlatOf}
use Rattle.tdf_bind.specs.declared.model.Flat.{Flat}
use Rattle.tdf_bind_invariants.specs.Limits.{AreWithinLimits}
use Rattle.tdf_events.specs.Side.{SideOf}
use Rattle.tdf_lang_tree.specs.Pure.{PureTree}
use Rattle.tdf_saved.specs.State.{ColumnStateOf}
use Rattle.tdf_sim_history.specs.Cells.{run_cells, world_before}
use Rattle.tdf_sim_history.specs.Rules.{rules_of}
use Rattle.tdf_sim_history.specs.World.{World}
use Rattle.tdf_sim_resumed.specs.Snapshot.{AreSavedColumns, IsRowsFrom}
use Rattle.tdf_sim_traces.specs.Shown.{IsShown}
use Rattle.tdf_sim_traces.specs.declared.shown.Shown.{Shown}

-- the trace shows what the run from a start has done by all instants before a time
abbrev pub ShowsRun : PureTree → Flat → (start : World SideOf) → (time : ℕ) → Shown → Type 0
ShowsRun model flat start time s =
    IsShown model flat start time (world_before model flat (rules_of model flat) start time) s

-- rows are still to be written from a time on, for each run that is shown
abbrev pub GivesRowsFrom : Shown → (time rows : ℕ) → Type 0
GivesRowsFrom s time rows = (model : PureTree) (flat : Flat) (start : World SideOf)
    → IsFlatOf model flat → AreWithinLimits flat → ShowsRun model flat start time s
    → IsRowsFrom (run_cells model flat (rules_of model flat) start time) time rows

-- the columns are those of a snapshot, for each run that is shown and whose rows are written up to
-- that time
abbrev pub GivesColumns : Flat → Shown → List ColumnStateOf → Type 0
GivesColumns flat s columns = (model : PureTree) (start : World SideOf) (time : ℕ)
    → IsFlatOf model flat → AreWithinLimits flat → ShowsRun model flat start time s
    → IsRowsFrom (run_cells model flat (rules_of model flat) start time) time s.trace.rows.upto
    → AreSavedColumns model flat start
    (world_before model flat (rules_of model flat) start time) time columns
