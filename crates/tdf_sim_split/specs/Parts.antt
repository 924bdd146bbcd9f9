-- A run that is saved and one that goes on from the snapshot are together one unbroken run.
-- Source: own.
use Rattle.std.specs.Prelude.{◌≡◌, ◌≤◌, ◌+◌, ◌-◌, ◌++◌, ℕ, Bool, Some, List, [], All, slice_get}
use Rattle.tdf_bind.specs.Flat.{IsFlatOf}
use Rattle.tdf_bind.specs.declared.model.Flat.{Flat}
use Rattle.tdf_bind_invariants.specs.Formats.{IsSoundModel}
use Rattle.tdf_bind_invariants.specs.Limits.{AreWithinLimits}
use Rattle.tdf_dynamic_first.specs.First.{IsFirstPlan}
use Rattle.tdf_dynamic_first.specs.declared.first.First.{First}
use Rattle.tdf_events.specs.Side.{SideOf}
use Rattle.tdf_expr.specs.Checked.{IsCheckedOf}
use Rattle.tdf_lang_tree.specs.Pure.{PureTree}
use Rattle.tdf_saved.specs.State.{SnapshotOf}
use Rattle.tdf_sim_history.specs.Answers.{AreAnswers}
use Rattle.tdf_sim_history.specs.Cells.{run_cells}
use Rattle.tdf_sim_history.specs.Continuing.{HasToldCounts}
use Rattle.tdf_sim_history.specs.Rules.{rules_of, start_world}
use Rattle.tdf_sim_history.specs.Telling.{world_told}
use Rattle.tdf_sim_history.specs.Texts.{end_of, notes_to, run_trace, state_at}
use Rattle.tdf_sim_history.specs.World.{Change, World}
use Rattle.tdf_sim_resumed.specs.Formats.{AreInFormatsTo}
use Rattle.tdf_sim_resumed.specs.Snapshot.{IsRowsFrom, IsSnapshot}
use Rattle.tdf_sim_resumed.specs.Starting.{resumed_world, rows_from_saved}
use Rattle.tdf_sim_resumed.specs.Valid.{IsValid}
use Rattle.tdf_sim_split.specs.Alike.{StatesAlike}
use Rattle.tdf_sim_split.specs.Laws.{GoesOnFrom}
use Rattle.tdf_trace_rows.specs.Rows.{Writing, text_from}

-- the same stands on the event side of two worlds, and as many turns are left
pub record StandsAlike (a b : World SideOf) : Type 0 where
  pub events : b.events ≡ a.events
  pub left : b.left ≡ a.left

-- a history and one that goes on from it end alike; the whole trace is what was written before the
-- time from which on rows are still to be written, and then that of the one that goes on; and so it
-- is with the plans that come
pub record RunSplits (writing : Writing) (model : PureTree) (flat : Flat) (one two : World SideOf)
    (from rows stop : ℕ) : Type 0 where
  pub states : StatesAlike StandsAlike (state_at model flat (rules_of model flat) one stop)
      (state_at model flat (rules_of model flat) two stop)
  pub trace : run_trace writing model flat (rules_of model flat) one stop ≡ (writing.head
      ++ text_from writing.line (run_cells model flat (rules_of model flat) one from) 0 rows)
      ++ (text_from writing.line (run_cells model flat (rules_of model flat) two
      (end_of model flat (rules_of model flat) two stop)) rows
      (end_of model flat (rules_of model flat) two stop - rows)
      ++ writing.tail (end_of model flat (rules_of model flat) two stop))
  pub notes : notes_to model flat (rules_of model flat) one stop
      ≡ notes_to model flat (rules_of model flat) one from
      ++ notes_to model flat (rules_of model flat) two stop
  pub unwritten : IsRowsFrom (run_cells model flat (rules_of model flat) one from) from rows

-- so it is with a run from its text and one that goes on from its snapshot, where both are told the
-- answers of their boundaries
abbrev pub RunsSplit : Type 0
RunsSplit = (writing : Writing) (model : PureTree) (flat : Flat) (firsts later : List First)
    → (ahead more told : List (List Change)) (w : World SideOf) (s : SnapshotOf)
    → (from stop turns : ℕ) (vcd : Bool)
    → IsSoundModel model → IsFlatOf model flat → IsCheckedOf model flat.checked
    → AreWithinLimits flat
    → ((n : ℕ) (first : First) → slice_get firsts n ≡ Some first → IsFirstPlan flat (n + 1) first)
    → All (All HasToldCounts) ahead
    → AreAnswers model flat (rules_of model flat) (start_world model flat firsts ahead turns) stop
    → from ≤ stop → IsSnapshot model flat (start_world model flat firsts ahead turns) w from turns
    vcd s → AreInFormatsTo model flat (start_world model flat firsts ahead turns) from
    → IsValid model flat later s
    → GoesOnFrom model flat from w (resumed_world model flat later s more)
    → IsRowsFrom (run_cells model flat (rules_of model flat)
    (start_world model flat firsts ahead turns) from) from (rows_from_saved model flat later s)
    → AreAnswers model flat (rules_of model flat)
    (world_told told (resumed_world model flat later s [])) stop
    → RunSplits writing model flat (start_world model flat firsts ahead turns)
    (world_told told (resumed_world model flat later s [])) from
    (rows_from_saved model flat later s) stop
