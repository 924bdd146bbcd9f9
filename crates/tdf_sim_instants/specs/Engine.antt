-- All that runs of a model, between two instants.
-- Source: own.
use Rattle.std.specs.Prelude.{◌≡◌, ◌⊎◌, ◌<◌, ◌≤◌, ◌+◌, ℕ, false, List, [], Some, length, map, None, Option, slice_get, sum}
use Rattle.tdf_base.specs.declared.faults.Fault.{Fault}
use Rattle.tdf_convert.specs.Emitted.{write_of_sent}
use Rattle.tdf_convert.specs.Links.{samplers_in}
use Rattle.tdf_convert.specs.Outputs.{OutputsOf, WritesOf}
use Rattle.tdf_convert.specs.declared.links.Links.{Links}
use Rattle.tdf_sim_instants.specs.Ahead.{LieInside}
use Rattle.tdf_sim_instants.specs.Crossing.{CrossingOf, HasNoTurn, HasStopped, HaveCrossed, crossing_of}
use Rattle.tdf_sim_refinement.specs.Linked.{AreSamplerLinks, AreSinkLinks}
use Rattle.tdf_sim_instants.specs.Sampling.{CanSample, HaveSampled, sampling_at}
use Rattle.tdf_sim_instants.specs.Settling.{IsBefore, event_turn}
use Rattle.tdf_sim_instants.specs.Times.{due_time}
use Rattle.tdf_sim_instants.specs.declared.engine.Engine.{Engine}
use Rattle.tdf_events.specs.Kernel.{IsKernelOf, side_of}
use Rattle.tdf_events.specs.Side.{SideOf}
use Rattle.tdf_sim_refinement.specs.Below.{AreTableGroups, ClusterOf, IsClusterOf, Room, Runner, sent_size, size_due, traced_size}
use Rattle.tdf_expr.specs.Checked.{IsCheckedOf}
use Rattle.tdf_fixed.specs.declared.raw.Raw.{Raw}
use Rattle.tdf_bind.specs.declared.model.Flat.{Flat}
use Rattle.tdf_schedule.specs.declared.entry.Entry.{Entry}
use Rattle.tdf_sim_refinement.specs.Pass.{CanPass, HasPassedAll, HasPassedPart, RunOf, pass_at, pass_run}
use Rattle.tdf_lang_tree.specs.Pure.{PureTree}

-- a cluster in progress, number n from 0: one of the flat model, in a period that takes some time
-- and has all its entries before its end
pub record IsInProgress (flat : Flat) (n : ℕ) (c : ClusterOf) : Type 0 where
  pub of : IsClusterOf flat c
  pub number : c.number ≡ n + 1
  pub going : c.crossed ≡ false
  pub takes : 0 < c.period
  pub inside : LieInside c

-- each of them is
abbrev pub AreInProgress : Flat → List ClusterOf → Type 0
AreInProgress flat clusters = (n : ℕ) (c : ClusterOf) → slice_get clusters n ≡ Some c
    → IsInProgress flat n c

-- no more samples come from the entries of one offset of each cluster than these numbers say, and
-- their sum is no more than there is room for
pub record HaveRooms (size : Option Runner → ℕ) (clusters : List ClusterOf) (room : ℕ)
    : Type 0 where
  pub most : List ℕ
  pub same : length most ≡ length clusters
  pub each : (n m offset : ℕ) (c : ClusterOf) → slice_get clusters n ≡ Some c
      → slice_get most n ≡ Some m → size_due size c.runners offset c.entries ≤ m
  pub within : sum most ≤ room

-- no more samples come from the entries of one offset of a cluster than this says
pub record IsRoomOf (c : ClusterOf) (room : Room) : Type 0 where
  pub sent : (offset : ℕ) → size_due sent_size c.runners offset c.entries ≤ room.sent
  pub traced : (offset : ℕ) → size_due traced_size c.runners offset c.entries ≤ room.traced

-- a number is none of these
abbrev pub IsNoneOf : List ℕ → ℕ → Type 0
IsNoneOf places n = (k : ℕ) → slice_get places k ≡ Some n → ⊥

-- there is a room for each cluster, and it is that of the cluster but for those at these places
pub record AreRoomsBut (places : List ℕ) (clusters : List ClusterOf) (rooms : List Room) : Type 0
  where
    pub same : length rooms ≡ length clusters
    pub each : (n : ℕ) (c : ClusterOf) (room : Room) → slice_get clusters n ≡ Some c
        → slice_get rooms n ≡ Some room → IsNoneOf places n → IsRoomOf c room

-- the lists are empty, and have room for all that one offset of each cluster gives
pub record AreRoomy (clusters : List ClusterOf) (outputs : OutputsOf) (writes : WritesOf)
    : Type 0 where
  pub sent_room : HaveRooms sent_size clusters outputs.sent_room
  pub traced_room : HaveRooms traced_size clusters outputs.traced_room
  pub write_room : outputs.sent_room ≤ writes.room
  pub none_sent : outputs.sent ≡ []
  pub none_traced : outputs.traced ≡ []
  pub none_written : writes.list ≡ []

-- what holds of the parts of a run between two instants
pub record IsEngineOf (flat : Flat) (e : Engine) : Type 0 where
  pub since : length e.since.items ≡ length e.clusters.items
  pub links : length e.links.items ≡ length e.clusters.items
  pub inputs : length e.inputs.items ≡ length e.clusters.items
  pub clusters : (n : ℕ) (c : ClusterOf) → slice_get e.clusters.items n ≡ Some c
      → IsInProgress flat n c
  pub linked : (n : ℕ) (l : Links) → slice_get e.links.items n ≡ Some l
      → AreSamplerLinks flat.tables (n + 1) l.list.items
  pub given : (n : ℕ) (l : Links) (i : List Raw) → slice_get e.links.items n ≡ Some l
      → slice_get e.inputs.items n ≡ Some i → length i ≡ samplers_in l.list.items
  pub sinks : AreSinkLinks flat.tables e.sinks.list.items
  pub sent_room : HaveRooms sent_size e.clusters.items e.outputs.sent_room
  pub traced_room : HaveRooms traced_size e.clusters.items e.outputs.traced_room
  pub write_room : e.outputs.sent_room ≤ e.writes.room
  pub none_sent : e.outputs.sent ≡ []
  pub none_written : e.writes.list ≡ []
  pub rooms : AreRoomsBut [] e.clusters.items e.rooms.items
  pub kernel : IsKernelOf flat e.kernel
  pub groups : AreTableGroups flat.tables e.groups

-- the period of a cluster began before a time, or there was none before it; each entry that is done
-- was due before that time
pub record HasDoneBefore (time s : ℕ) (c : ClusterOf) : Type 0 where
  pub begun : ((s ≡ 0) × (time ≡ 0)) ⊎ (s < time)
  pub done : (i : ℕ) (x : Entry) → i < c.place → slice_get c.entries i ≡ Some x
      → s + x.offset < time

-- nothing is due before a time, what is done was, and the periods have begun by then
pub record IsReadyAt (time : ℕ) (e : Engine) : Type 0 where
  pub begun : (n s : ℕ) → slice_get e.since.items n ≡ Some s → s ≤ time
  pub before : (n s : ℕ) (c : ClusterOf) → slice_get e.clusters.items n ≡ Some c
      → slice_get e.since.items n ≡ Some s → HasDoneBefore time s c
  pub clusters : (n s : ℕ) (c : ClusterOf) → slice_get e.clusters.items n ≡ Some c
      → slice_get e.since.items n ≡ Some s → time ≤ due_time s c
  pub side : IsBefore time (side_of e.kernel)

-- the firings of a time can be done, with what the samplers that are due are given
pub record CanFireAll (flat : Flat) (time : ℕ) (e : Engine) (left : ℕ) : Type 0 where
  pub going : e.kernel.spent ≡ false
  pub sample : CanSample (sampling_at time e.since.items e.clusters.items e.links.items
      e.kernel.values) e.inputs.items
  pub pass : (inputs : List (List Raw)) → HaveSampled (sampling_at time e.since.items
      e.clusters.items e.links.items e.kernel.values) (length e.clusters.items)
      e.inputs.items inputs
      → CanPass flat (pass_at time e.since.items inputs)
      (pass_run e.clusters.items e.outputs left)

-- the boundaries of an instant
abbrev pub HaveBoundaries : Flat → (time : ℕ) → Engine → (left : ℕ) → CrossingOf → Type 0
HaveBoundaries flat time e left crossed = HaveCrossed flat time (length e.clusters.items)
    (crossing_of e.clusters.items e.since.items left []) crossed

-- the samplers that are due then have read, and the clusters have fired what is due, from empty
-- lists on that have room for it
pub record HaveFired (flat : Flat) (time : ℕ) (e : Engine) (crossed : CrossingOf)
    (inputs : List (List Raw)) (run : RunOf) : Type 0 where
  pub sampled : HaveSampled (sampling_at time crossed.since crossed.clusters e.links.items
      e.kernel.values) (length crossed.clusters) e.inputs.items inputs
  pub outputs : OutputsOf
  pub none_sent : outputs.sent ≡ []
  pub none_traced : outputs.traced ≡ []
  pub firings : HasPassedAll flat (pass_at time crossed.since inputs)
      (pass_run crossed.clusters outputs crossed.left) run

-- the same, but the turns that are left are too few for one of the clusters
pub record HaveFiredPart (flat : Flat) (time : ℕ) (e : Engine) (crossed : CrossingOf)
    (inputs : List (List Raw)) (run : RunOf) : Type 0 where
  pub sampled : HaveSampled (sampling_at time crossed.since crossed.clusters e.links.items
      e.kernel.values) (length crossed.clusters) e.inputs.items inputs
  pub outputs : OutputsOf
  pub firings : HasPassedPart flat (pass_at time crossed.since inputs)
      (pass_run crossed.clusters outputs crossed.left) run

-- what sinks sent is written, in the event part
abbrev pub Settles : Flat → (time : ℕ) → Engine → RunOf → Option (SideOf × ℕ) → Type 0
Settles flat time e run after = (model : PureTree) → IsCheckedOf model flat.checked
    → event_turn model flat time (map (write_of_sent e.sinks.list.items) run.outputs.sent)
    (side_of e.kernel) run.left ≡ after

-- the three parts of an instant: boundaries, then firings with the values that samplers read, then
-- the event part with what sinks sent
pub record HasHadInstant (flat : Flat) (time : ℕ) (e f : Engine) (left rest : ℕ) : Type 0 where
  pub crossed : CrossingOf
  pub boundaries : HaveBoundaries flat time e left crossed
  pub since : f.since.items ≡ crossed.since
  pub planned : f.planned.items ≡ crossed.planned
  pub run : RunOf
  pub fired : HaveFired flat time e crossed f.inputs.items run
  pub clusters : f.clusters.items ≡ run.clusters
  pub traced : f.outputs ≡ record run.outputs { sent = [] }
  pub events : Settles flat time e run (Some (side_of f.kernel, rest))

-- the turns that are left are too few: in the boundaries, in the firings, or in the event part
pub data HasBeenSpent (flat : Flat) (time : ℕ) (e f : Engine) (left : ℕ) : Type 0 where
  InBoundaries : (crossed : CrossingOf)
      → HasNoTurn flat time (crossing_of e.clusters.items e.since.items left []) crossed
      → f.clusters.items ≡ crossed.clusters → f.planned.items ≡ crossed.planned
      → HasBeenSpent flat time e f left
  InFirings : (crossed : CrossingOf) (inputs : List (List Raw)) (run : RunOf)
      → HaveBoundaries flat time e left crossed
      → HaveFiredPart flat time e crossed inputs run
      → f.clusters.items ≡ run.clusters → f.planned.items ≡ crossed.planned
      → HasBeenSpent flat time e f left
  InEvents : (crossed : CrossingOf) (inputs : List (List Raw)) (run : RunOf)
      → HaveBoundaries flat time e left crossed
      → HaveFired flat time e crossed inputs run → Settles flat time e run None
      → f.clusters.items ≡ run.clusters → f.planned.items ≡ crossed.planned
      → HasBeenSpent flat time e f left

-- what the modules of the cluster of this number ask for at its boundary has a fault
pub record HasBeenStopped (flat : Flat) (time number : ℕ) (fault : Fault) (e f : Engine)
    (left : ℕ) : Type 0 where
  pub crossed : CrossingOf
  pub stopped : HasStopped flat time number fault
      (crossing_of e.clusters.items e.since.items left []) crossed
  pub clusters : f.clusters.items ≡ crossed.clusters
  pub since : f.since.items ≡ crossed.since
  pub planned : f.planned.items ≡ crossed.planned
  pub rest : f ≡ record e { clusters = f.clusters; since = f.since; planned = f.planned }
