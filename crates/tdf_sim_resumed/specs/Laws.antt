-- What holds of the world that a valid snapshot says, and of the snapshots of a world.
-- Source: own.
use Rattle.std.specs.Prelude.{◌≡◌, ◌<◌, ◌≤◌, ◌+◌, ℕ, Bool, false, List, All, Some, length, slice_get}
use Rattle.tdf_bind.specs.declared.model.Flat.{Flat}
use Rattle.tdf_bind_invariants.specs.Limits.{AreWithinLimits}
use Rattle.tdf_dynamic_first.specs.declared.first.First.{First}
use Rattle.tdf_events.specs.Side.{SideOf}
use Rattle.tdf_sim_refinement.specs.Below.{ClusterOf, IsInPeriod, cluster_state}
use Rattle.tdf_lang_tree.specs.Pure.{PureTree}
use Rattle.tdf_saved.specs.State.{ClusterStateOf, SnapshotOf}
use Rattle.tdf_schedule.specs.declared.entry.Entry.{Entry}
use Rattle.tdf_sim_history.specs.Continuing.{HasToldCounts, HasWholePlan}
use Rattle.tdf_sim_history.specs.History.{On}
use Rattle.tdf_sim_history.specs.Rules.{rules_of, world_engine}
use Rattle.tdf_sim_history.specs.TableLaws.{HaveAttributes}
use Rattle.tdf_sim_history.specs.Texts.{state_at}
use Rattle.tdf_sim_history.specs.World.{Change, ClusterAt, World}
use Rattle.tdf_sim_refinement.specs.Pass.{AreAt}
use Rattle.tdf_sim_resumed.specs.Snapshot.{AreSavedClusters, IsSnapshot}
use Rattle.tdf_sim_resumed.specs.Starting.{resumed_world}
use Rattle.tdf_sim_resumed.specs.Valid.{IsValid}
use Rattle.tdf_streams.specs.Signals.{time_of_periods}

-- in the world that a valid snapshot says, nothing is due before its time
abbrev pub NoneIsDueBefore : Type 0
NoneIsDueBefore = (model : PureTree) (flat : Flat) (firsts : List First) (s : SnapshotOf)
    → (ahead : List (List Change)) (time : ℕ) → IsValid model flat firsts s → time < s.time
    → (world_engine model flat).is_due (resumed_world model flat firsts s ahead) time ≡ false

-- so its history, counted from the time 0, stands still up to that time
abbrev pub StandsStill : Type 0
StandsStill = (model : PureTree) (flat : Flat) (firsts : List First) (s : SnapshotOf)
    → (ahead : List (List Change)) (time : ℕ) → IsValid model flat firsts s → time ≤ s.time
    → state_at model flat (rules_of model flat) (resumed_world model flat firsts s ahead) time
    ≡ On (resumed_world model flat firsts s ahead)

-- the clusters of a world have attributes of theirs and whole plans under them, and their periods
-- began when those before were over
pub record IsGoodStart (flat : Flat) (w : World SideOf) : Type 0 where
  pub attributes : HaveAttributes flat w
  pub plans : (n : ℕ) (c : ClusterAt) → slice_get w.clusters n ≡ Some c → HasWholePlan c
  pub timed : (n : ℕ) (c : ClusterAt) → slice_get w.clusters n ≡ Some c
      → c.since ≡ c.origin + time_of_periods c.old

-- so it is with the world that a valid snapshot says, where new plans that are told of its
-- boundaries have their counts
abbrev pub ResumedAreGood : Type 0
ResumedAreGood = (model : PureTree) (flat : Flat) (firsts : List First) (s : SnapshotOf)
    → (ahead : List (List Change)) → AreWithinLimits flat → IsValid model flat firsts s
    → All (All HasToldCounts) ahead
    → IsGoodStart flat (resumed_world model flat firsts s ahead)

-- a run has one snapshot at a time
abbrev pub SnapshotIsOne : Type 0
SnapshotIsOne = (model : PureTree) (flat : Flat) (start w : World SideOf) (time budget : ℕ)
    → (vcd : Bool) (one other : SnapshotOf) → AreWithinLimits flat → HaveAttributes flat w
    → IsSnapshot model flat start w time budget vcd one
    → IsSnapshot model flat start w time budget vcd other → one ≡ other

-- these are the states that clusters in progress tell, whose periods began at these times
pub record AreToldStates (since : List ℕ) (clusters : List ClusterOf)
    (states : List ClusterStateOf) : Type 0 where
  pub same : length states ≡ length clusters
  pub each : (n : ℕ) (c : ClusterOf) (t : ℕ) (s : ClusterStateOf) → slice_get clusters n ≡ Some c
      → slice_get since n ≡ Some t → slice_get states n ≡ Some s → s ≡ cluster_state c t

-- a cluster in progress, whose period began at `since`, is up to a time: it began before it, or
-- nothing has happened at all; what is done was due before the time, and what is left isn't
pub record IsUpTo (time since : ℕ) (c : ClusterOf) : Type 0 where
  pub inside : IsInPeriod since time c.period
  pub done : (i : ℕ) (x : Entry) → i < c.place → slice_get c.entries i ≡ Some x
      → since + x.offset < time
  pub next : (x : Entry) → slice_get c.entries c.place ≡ Some x → time ≤ since + x.offset

-- so is each
abbrev pub AreUpTo : (time : ℕ) → (since : List ℕ) → List ClusterOf → Type 0
AreUpTo time since clusters = (n t : ℕ) (c : ClusterOf) → slice_get clusters n ≡ Some c
    → slice_get since n ≡ Some t → IsUpTo time t c

-- where clusters in progress are those of the history, and up to a time, they are the states of
-- these
abbrev pub ClustersAreSaved : Type 0
ClustersAreSaved = (model : PureTree) (flat : Flat) (time : ℕ) (w : World SideOf) (since : List ℕ)
    → (clusters : List ClusterOf) (states : List ClusterStateOf) → AreWithinLimits flat
    → AreAt model flat since w.clusters clusters → length since ≡ length clusters
    → AreUpTo time since clusters
    → AreToldStates since clusters states → AreSavedClusters model flat time w states
