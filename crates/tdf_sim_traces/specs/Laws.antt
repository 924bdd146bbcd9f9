-- What holds of what is shown.
-- Source: own.
use Rattle.std.specs.Prelude.{◌≡◌, ◌<◌, ◌≤◌, ℕ, List, [], All, Some, length, slice_get, slice_index}
use Rattle.tdf_base.specs.Limits.{time_end}
use Rattle.tdf_trace.specs.Tracked.{AreSince}
use Rattle.tdf_convert.specs.declared.outputs.Traced.{Traced}
use Rattle.tdf_dynamic_plans.specs.Attributes.{clusters_of}
use Rattle.tdf_dynamic_first.specs.declared.first.First.{First}
use Rattle.tdf_events.specs.Runnable.{AreOfSignals, IsRunnable, signal_formats}
use Rattle.tdf_events.specs.Side.{SideOf}
use Rattle.tdf_fixed.specs.declared.raw.Raw.{Raw}
use Rattle.tdf_bind.specs.Flat.{IsFlatOf}
use Rattle.tdf_bind.specs.declared.model.Flat.{Flat}
use Rattle.tdf_bind_invariants.specs.Formats.{IsSoundModel}
use Rattle.tdf_sim_history.specs.Telling.{AreTold, world_told}
use Rattle.tdf_sim_history.specs.World.{Change, ClusterAt, World}
use Rattle.tdf_bind_invariants.specs.Limits.{AreWithinLimits}
use Rattle.tdf_trace_rows.specs.Rows.{Cells}
use Rattle.tdf_sim_refinement.specs.Pass.{AreAt}
use Rattle.tdf_sim_traces.specs.Advanced.{HasAdvanced}
use Rattle.tdf_sim_traces.specs.Calls.{CanBeShown, CanStart, CanTake, IsUnshown}
use Rattle.tdf_sim_traces.specs.Events.{values_before}
use Rattle.tdf_sim_traces.specs.Periods.{ClockAt}
use Rattle.tdf_sim_traces.specs.Shown.{IsShown}
use Rattle.tdf_sim_traces.specs.declared.shown.Shown.{Shown}
use Rattle.tdf_trace.specs.Stands.{Stands, TraceSeen}
use Rattle.tdf_lang_tree.specs.Pure.{PureTree}
use Rattle.tdf_trace_rows.specs.declared.kinds.TraceKind.{TraceKind}
use Rattle.tdf_sim_history.specs.WorldLaws.{AreSteady}
use Rattle.tdf_sim_history.specs.Rules.{rules_of, start_world}

-- the traces of a sound model can be shown
abbrev pub SoundCanBeShown : Type 0
SoundCanBeShown = (model : PureTree) (flat : Flat) → IsSoundModel model → IsFlatOf model flat
    → AreWithinLimits flat → IsRunnable flat → CanBeShown flat.tables

-- there is a cluster for each number of one
abbrev pub AreAllThere : Flat → (count : ℕ) → Type 0
AreAllThere flat count = (m : ℕ) → slice_index (clusters_of flat.tables) m ≤ count

-- its run can start, with clusters in progress that are at their start
abbrev pub SoundCanStart : Type 0
SoundCanStart = (model : PureTree) (flat : Flat) (kind : TraceKind) (firsts : List First)
    → (turns : ℕ) (clock : ClockAt) (s : Shown) → IsSoundModel model → IsFlatOf model flat
    → AreWithinLimits flat → IsUnshown kind flat s → clock.time ≡ 0
    → AreAt model flat clock.since (start_world model flat firsts [] turns).clusters clock.clusters
    → length clock.since ≡ length clock.clusters → AreAllThere flat (length clock.clusters)
    → CanStart flat clock s

-- and takes what instants give, where no rows are written but before the periods
abbrev pub AdvancedCanBeTaken : Type 0
AdvancedCanBeTaken = (model : PureTree) (flat : Flat) (start w v : World SideOf) (clock : ClockAt)
    → (traced : List Traced) (values : List Raw) (s : Shown)
    → IsFlatOf model flat → AreWithinLimits flat → IsShown model flat start clock.time w s
    → HasAdvanced model flat clock.time w v traced → AreSteady model flat w
    → AreAt model flat clock.since v.clusters clock.clusters
    → length clock.since ≡ length clock.clusters → clock.time < time_end
    → s.trace.rows.upto ≤ clock.time → AreSince s.trace.rows.upto s.tracking.list
    → All (λ sample. sample.value.frac ≤ 120) traced
    → AreOfSignals (signal_formats flat) values → CanTake flat clock traced values s

-- no rows from a time on are held back by positions, where no cluster began its period before it
abbrev pub RowsMayBeWritten : Type 0
RowsMayBeWritten = (model : PureTree) (flat : Flat) (start w : World SideOf) (from mark : ℕ)
    → (s : Shown) → IsShown model flat start from w s
    → ((n : ℕ) (h : ClusterAt) → slice_get w.clusters n ≡ Some h → mark ≤ h.since)
    → AreSince mark s.tracking.list

-- what is shown stays so while rows are written, and while no time changes the settled values
abbrev pub WrittenIsShown : Type 0
WrittenIsShown = (model : PureTree) (flat : Flat) (start w : World SideOf) (from : ℕ) (s : Shown)
    → (trace : TraceSeen) → IsShown model flat start from w s
    → ((cells : Cells) → Stands cells s.trace.rows → Stands cells trace.rows)
    → trace.about ≡ s.trace.about → IsShown model flat start from w (record s { trace = trace })

abbrev pub LaterIsShown : Type 0
LaterIsShown = (model : PureTree) (flat : Flat) (start w : World SideOf) (from time : ℕ)
    → (s : Shown) → IsShown model flat start from w s → from ≤ time
    → ((t : ℕ) → from ≤ t → t ≤ time
    → values_before model flat start t ≡ values_before model flat start from)
    → IsShown model flat start time w s

-- and where more is told of the boundaries to come
abbrev pub ToldIsShown : Type 0
ToldIsShown = (model : PureTree) (flat : Flat) (start w : World SideOf) (from : ℕ)
    → (more : List (List Change)) (s : Shown)
    → AreTold model flat (rules_of model flat) start from → IsShown model flat start from w s
    → IsShown model flat (world_told more start) from (world_told more w) s
