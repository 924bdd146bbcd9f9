-- What goes on from the snapshot of a run.
-- Source: own.
use Rattle.std.specs.List.{range_with_len}
use Rattle.std.specs.Prelude.{◌≡◌, ◌<◌, ◌≤◌, ◌+◌, ◌^◌, ℕ, ℤ, All, Bool, true, List, [], Some, length, map, slice_get, slice_index_or}
use Rattle.tdf_base.specs.Limits.{time_end}
use Rattle.tdf_bind.specs.Flat.{IsFlatOf}
use Rattle.tdf_bind.specs.declared.model.Flat.{Flat}
use Rattle.tdf_bind_connections.specs.ProcessBlocks.{BlockRowOf, ProcessRowOf}
use Rattle.tdf_bind_connections.specs.declared.modules.ModuleRow.{ModuleRow}
use Rattle.tdf_bind_invariants.specs.Formats.{IsSoundModel}
use Rattle.tdf_bind_invariants.specs.Limits.{AreWithinLimits}
use Rattle.tdf_dynamic_first.specs.First.{IsFirstPlan}
use Rattle.tdf_dynamic_first.specs.declared.first.First.{First}
use Rattle.tdf_dynamic_plans.specs.Attributes.{clusters_of}
use Rattle.tdf_events.specs.Laws.{HasNothingWaiting}
use Rattle.tdf_events.specs.Side.{SideOf}
use Rattle.tdf_events.specs.State.{IsKernelState}
use Rattle.tdf_events_queue.specs.Times.{IsNonePending, pending_time}
use Rattle.tdf_expr.specs.Checked.{IsCheckedOf}
use Rattle.tdf_expr.specs.Made.{CellsFit, start_rates}
use Rattle.tdf_expr_state.specs.State.{FrameState}
use Rattle.tdf_graph.specs.Clusters.{greatest}
use Rattle.tdf_lang_tree.specs.Pure.{PureTree}
use Rattle.tdf_saved.specs.State.{SnapshotOf}
use Rattle.tdf_sim_history.specs.Answers.{AreAnswers}
use Rattle.tdf_sim_history.specs.Continuing.{HasToldCounts}
use Rattle.tdf_sim_history.specs.Rules.{rules_of, start_world}
use Rattle.tdf_sim_history.specs.World.{Change, ClusterAt, World}
use Rattle.tdf_sim_resumed.specs.Snapshot.{IsSnapshot}
use Rattle.tdf_sim_resumed.specs.Starting.{resumed_world}
use Rattle.tdf_sim_resumed.specs.Valid.{ArePlansOf, HasTimesOf}
use Rattle.tdf_sim_split.specs.Laws.{AreSound, GoesOnFrom}
use Rattle.tdf_streams.specs.Bodies.{initialized}
use Rattle.tdf_streams.specs.Cluster.{Start, is_outside_cluster}

-- what the text says that modules keep at first, where they have no rates: so those of other
-- clusters count
abbrev pub cells_of_others : PureTree → Flat → List (List ℤ)
cells_of_others model flat =
    map (λ m. initialized model flat m []) (range_with_len 0 (length flat.tables.modules))

-- the start of a cluster's streams says this of modules of other clusters
pub record SaysOthers (model : PureTree) (flat : Flat) (number : ℕ) (start : Start) : Type 0 where
  pub same : (m : ℕ) → is_outside_cluster flat.tables number m ≡ true
      → slice_index_or start.cells m [] ≡ slice_index_or (cells_of_others model flat) m []

-- values of variables of modules, by module, are of the formats of the variables
abbrev pub HasFitCells : Flat → List (List ℤ) → Type 0
HasFitCells flat cells = (m : ℕ) (row : ModuleRow) → slice_get flat.tables.modules m ≡ Some row
    → CellsFit flat.checked row.block (slice_index_or cells m [])

-- an event side at the start of a run from a time on: nothing waits, values of variables are of
-- their formats, rates are those that are declared, and notifications come within 10^18 counts; at
-- the time 0 nothing is pending, and the processes that run at the start are triggered
pub record IsStartSide (flat : Flat) (from : ℕ) (side : SideOf) : Type 0 where
  pub waiting : HasNothingWaiting side
  pub delta : length side.notices.delta ≡ length flat.tables.events
  pub rates : (n : ℕ) (row : BlockRowOf) (f : FrameState)
      → slice_get flat.tables.blocks n ≡ Some row → slice_get side.frames n ≡ Some f
      → f.rates ≡ start_rates flat.checked row.block
  pub cells : (n : ℕ) (row : BlockRowOf) (f : FrameState)
      → slice_get flat.tables.blocks n ≡ Some row → slice_get side.frames n ≡ Some f
      → CellsFit flat.checked row.block f.cells
  pub until : (event time : ℕ) → pending_time side.notices.times event ≡ Some time
      → time ≤ from + 10 ^ 18
  pub none : from ≡ 0 → IsNonePending side.notices.times
  pub first : from ≡ 0
      → side.triggered ≡ map (λ (row : ProcessRowOf). row.starts) flat.tables.processes

-- a start, from a time on, of a run that can be saved, where it was given so many turns: its
-- clusters are sound, their streams begin so and with values of the formats of their variables; it
-- has a good event side, and no more turns left
pub record IsSoundStart (model : PureTree) (flat : Flat) (from budget : ℕ) (start : World SideOf)
    : Type 0 where
  pub sound : AreSound flat start
  pub others : (n : ℕ) (c : ClusterAt) → slice_get start.clusters n ≡ Some c
      → SaysOthers model flat (n + 1) c.begun
  pub cells : (n : ℕ) (c : ClusterAt) → slice_get start.clusters n ≡ Some c
      → HasFitCells flat c.begun.cells
  pub side : IsStartSide flat from start.events
  pub left : start.left ≤ budget

-- what is told of the boundaries to come in a world
abbrev pub told_ahead : World SideOf → List (List Change)
told_ahead w = map (λ (c : ClusterAt). c.ahead) w.clusters

-- a run of a model comes from a sound start, told answers of its boundaries, to a time, and this is
-- its snapshot there
pub record HasSnapshot (model : PureTree) (flat : Flat) (start w : World SideOf)
    (from time budget : ℕ) (vcd : Bool) (s : SnapshotOf) : Type 0 where
  pub start_is : IsSoundStart model flat from budget start
  pub later : from ≤ time
  pub told : AreAnswers model flat (rules_of model flat) start time
  pub is : IsSnapshot model flat start w time budget vcd s

-- what makes a snapshot valid, beside what its trace shows
pub record HasValidParts (flat : Flat) (s : SnapshotOf) : Type 0 where
  pub times : HasTimesOf s
  pub all : length s.clusters ≡ greatest (clusters_of flat.tables)
  pub firsts : List First
  pub plans : ArePlansOf flat s firsts
  pub kernel : IsKernelState flat s.time s.kernel

-- so it is with the snapshot of a run that was given so many turns
abbrev pub SnapshotsAreValid : Type 0
SnapshotsAreValid = (model : PureTree) (flat : Flat) (start w : World SideOf)
    → (from time budget : ℕ) (vcd : Bool) (s : SnapshotOf) → IsSoundModel model
    → IsFlatOf model flat → IsCheckedOf model flat.checked → AreWithinLimits flat
    → HasSnapshot model flat start w from time budget vcd s
    → length start.clusters ≡ greatest (clusters_of flat.tables) → time < time_end
    → 1 ≤ budget → budget ≤ 10 ^ 12 → HasValidParts flat s

-- and the world that it says, under plans for its clusters, goes on from that of the run
abbrev pub SnapshotsGoOn : Type 0
SnapshotsGoOn = (model : PureTree) (flat : Flat) (firsts : List First) (start w : World SideOf)
    → (from time budget : ℕ) (vcd : Bool) (s : SnapshotOf) → IsSoundModel model
    → IsFlatOf model flat → IsCheckedOf model flat.checked → AreWithinLimits flat
    → HasSnapshot model flat start w from time budget vcd s → ArePlansOf flat s firsts
    → GoesOnFrom model flat time w (resumed_world model flat firsts s (told_ahead w))

-- a run from its text begins with such a start, where it has its first plans and new plans that are
-- told come with their counts
abbrev pub TextsAreSoundStarts : Type 0
TextsAreSoundStarts = (model : PureTree) (flat : Flat) (firsts : List First)
    → (ahead : List (List Change)) (turns : ℕ) → IsFlatOf model flat
    → IsCheckedOf model flat.checked → AreWithinLimits flat
    → ((n : ℕ) (first : First) → slice_get firsts n ≡ Some first → IsFirstPlan flat (n + 1) first)
    → All (All HasToldCounts) ahead
    → IsSoundStart model flat 0 turns (start_world model flat firsts ahead turns)

-- and so does one that goes on from a snapshot, so a run can be saved twice
abbrev pub SnapshotsAreSoundStarts : Type 0
SnapshotsAreSoundStarts = (model : PureTree) (flat : Flat) (firsts : List First)
    → (start w : World SideOf) (from time budget : ℕ) (vcd : Bool) (s : SnapshotOf)
    → IsSoundModel model → IsFlatOf model flat → IsCheckedOf model flat.checked
    → AreWithinLimits flat → HasSnapshot model flat start w from time budget vcd s
    → ArePlansOf flat s firsts
    → IsSoundStart model flat time budget (resumed_world model flat firsts s (told_ahead w))
