-- A run from its text and one that goes on from a snapshot of it are one unbroken run.
-- Source: own.
use Rattle.std.specs.Prelude.{◌≡◌, ◌<◌, ◌≤◌, ◌+◌, ◌^◌, ℕ, Bool, Some, List, [], All, length, slice_get}
use Rattle.tdf_base.specs.Limits.{time_end}
use Rattle.tdf_bind.specs.Flat.{IsFlatOf}
use Rattle.tdf_bind.specs.declared.model.Flat.{Flat}
use Rattle.tdf_bind_invariants.specs.Formats.{IsSoundModel}
use Rattle.tdf_bind_invariants.specs.Limits.{AreWithinLimits}
use Rattle.tdf_dynamic_first.specs.First.{IsFirstPlan}
use Rattle.tdf_dynamic_first.specs.declared.first.First.{First}
use Rattle.tdf_dynamic_plans.specs.Attributes.{clusters_of}
use Rattle.tdf_expr.specs.Checked.{IsCheckedOf}
use Rattle.tdf_graph.specs.Clusters.{greatest}
use Rattle.tdf_lang_tree.specs.Pure.{PureTree}
use Rattle.tdf_saved.specs.State.{SnapshotOf}
use Rattle.tdf_sim_history.specs.Answers.{AreAnswers}
use Rattle.tdf_sim_history.specs.Continuing.{HasToldCounts}
use Rattle.tdf_sim_history.specs.Rules.{rules_of, start_world}
use Rattle.tdf_sim_history.specs.Telling.{world_told}
use Rattle.tdf_sim_history.specs.World.{Change, World}
use Rattle.tdf_events.specs.Side.{SideOf}
use Rattle.tdf_sim_resumed.specs.Formats.{AreInFormatsTo}
use Rattle.tdf_sim_resumed.specs.Snapshot.{IsSnapshot}
use Rattle.tdf_sim_resumed.specs.Starting.{resumed_world, rows_from_saved}
use Rattle.tdf_sim_resumed.specs.Valid.{ArePlansOf}
use Rattle.tdf_sim_split.specs.Columns.{EventsAreThere}
use Rattle.tdf_sim_split.specs.Parts.{RunSplits}
use Rattle.tdf_trace_rows.specs.Rows.{Writing}

-- with whatever plans its clusters can go on under, and whatever answers both are told
abbrev pub RunsAreUnbroken : Type 0
RunsAreUnbroken = (writing : Writing) (model : PureTree) (flat : Flat) (firsts later : List First)
    → (ahead told : List (List Change)) (w : World SideOf) (s : SnapshotOf)
    → (from stop turns : ℕ) (vcd : Bool)
    → IsSoundModel model → IsFlatOf model flat → IsCheckedOf model flat.checked
    → AreWithinLimits flat → EventsAreThere flat.tables
    → ((n : ℕ) (first : First) → slice_get firsts n ≡ Some first → IsFirstPlan flat (n + 1) first)
    → length firsts ≡ greatest (clusters_of flat.tables)
    → All (All HasToldCounts) ahead
    → AreAnswers model flat (rules_of model flat) (start_world model flat firsts ahead turns) stop
    → from ≤ stop → from < time_end → 1 ≤ turns → turns ≤ 10 ^ 12
    → IsSnapshot model flat (start_world model flat firsts ahead turns) w from turns vcd s
    → AreInFormatsTo model flat (start_world model flat firsts ahead turns) from
    → ArePlansOf flat s later
    → AreAnswers model flat (rules_of model flat)
    (world_told told (resumed_world model flat later s [])) stop
    → RunSplits writing model flat (start_world model flat firsts ahead turns)
    (world_told told (resumed_world model flat later s [])) from
    (rows_from_saved model flat later s) stop
