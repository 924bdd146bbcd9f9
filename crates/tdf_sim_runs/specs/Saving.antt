-- The snapshot of a run that waits.
-- Source: own.
use Rattle.std.specs.Prelude.{◌≡◌, ℕ, Bool, true, false, List, Some, slice_get}
use Rattle.tdf_bind.specs.declared.model.Flat.{Flat}
use Rattle.tdf_events.specs.Side.{SideOf}
use Rattle.tdf_sim_instants.specs.Below.{ClusterOf}
use Rattle.tdf_lang_tree.specs.Pure.{PureTree}
use Rattle.tdf_saved.specs.State.{SnapshotOf}
use Rattle.tdf_sim_history.specs.Cells.{run_cells}
use Rattle.tdf_sim_history.specs.Rules.{rules_of}
use Rattle.tdf_sim_history.specs.Telling.{world_told}
use Rattle.tdf_sim_history.specs.World.{World}
use Rattle.tdf_sim_instants.specs.InstantLaws.{IsModelOf}
use Rattle.tdf_sim_shown.specs.Below.{IsRowsFrom, IsSnapshot}
use Rattle.tdf_sim_runs.specs.Running.{IsRunningAt}
use Rattle.tdf_sim_runs.specs.declared.running.Running.{Running}
use Rattle.tdf_trace_rows.specs.declared.kinds.TraceKind.{TraceKind}
use Rattle.tdf_trace_rows.specs.declared.kinds.TraceKind.TheVariants.{Table, Vcd}

-- whether a trace of this kind is a value change dump
abbrev pub is_vcd : TraceKind → Bool
is_vcd Table = false
is_vcd Vcd = true

-- no cluster is between two periods
abbrev pub AreNotCrossed : List ClusterOf → Type 0
AreNotCrossed clusters = (n : ℕ) (c : ClusterOf) → slice_get clusters n ≡ Some c
    → c.crossed ≡ false

-- it is the snapshot that the run has, from each start, whose rows are written up to where they are
-- still to be written
abbrev pub IsSnapshotOf : Flat → Running → (turns : ℕ) → (vcd : Bool) → SnapshotOf → Type 0
IsSnapshotOf flat r turns vcd s = (model : PureTree) (start : World SideOf) (handed : List ℕ)
    → IsModelOf model flat → (run : IsRunningAt model flat start handed r)
    → IsRowsFrom (run_cells model flat (rules_of model flat)
    (world_told run.going.ahead start) r.from) r.from r.shown.trace.rows.upto
    → IsSnapshot model flat (world_told run.going.ahead start) run.going.world r.from turns vcd s
