-- What holds of the firings of a time, said of event sides that keep a number: a statement about
-- all types is no clause. The lemmas that show it are about all types.
-- Source: own.
use Rattle.std.specs.Prelude.{◌≡◌, ◌≤◌, ◌<◌, ℕ, ◌+◌, ◌-◌, false, List, [], ◌++◌, Some, length, map, replicate, slice_get, slice_index_or, slice_set}
use Rattle.tdf_convert.specs.Sampled.{AreByOffset}
use Rattle.tdf_exec.specs.Cluster.{ClusterOf, due_count, due_from, next_offset}
use Rattle.tdf_convert.specs.Outputs.{OutputsOf}
use Rattle.tdf_convert.specs.declared.outputs.Sent.{Sent}
use Rattle.tdf_exec.specs.Gained.{HasGained}
use Rattle.tdf_exec.specs.Made.{IsClusterOf}
use Rattle.tdf_exec.specs.Played.{AreDone, KeepsStanding, turns_from}
use Rattle.tdf_expr.specs.Checked.{IsCheckedOf}
use Rattle.tdf_fixed.specs.declared.raw.Raw.{Raw}
use Rattle.tdf_bind.specs.Flat.{IsFlatOf}
use Rattle.tdf_bind.specs.declared.model.Flat.{Flat}
use Rattle.tdf_graph.specs.declared.actors.Actor.TheVariants as actor
use Rattle.tdf_sim_history.specs.Instant.{all_firings, is_entry_due, next_entry}
use Rattle.tdf_sim_history.specs.World.{ClusterAt, Rules, World}
use Rattle.tdf_sim_history.specs.History.{Going, Past}
use Rattle.tdf_bind_invariants.specs.Limits.{AreWithinLimits}
use Rattle.tdf_sim_refinement.specs.At.{AreSettled, HaveTakenOne, IsAt}
use Rattle.tdf_sim_refinement.specs.Fired.{HasFired, HasTooFew}
use Rattle.tdf_sim_refinement.specs.Firings.{AreDueNext, IsNotLate, after_firings, reads_after, value_for, settled_values, world_after, write_of, writes_after}
use Rattle.tdf_streams.specs.Places.{actor_kind}
use Rattle.tdf_lang_tree.specs.Pure.{PureTree}

-- where the turns are enough, the firings of a cluster at a time are its entries that are due
abbrev pub DueEntriesFire : Type 0
DueEntriesFire = (model : PureTree) (flat : Flat) (rules : Rules ℕ) (time n k : ℕ)
    → (h : ClusterAt) (w : World ℕ) → slice_get w.clusters n ≡ Some h → AreDueNext time k h
    → k ≤ w.left
    → all_firings model flat rules time n w ≡ Going (world_after model flat rules n h w k)

-- where they are too few, the run is spent after those that the turns were enough for
abbrev pub TooFewTurnsEnd : Type 0
TooFewTurnsEnd = (model : PureTree) (flat : Flat) (rules : Rules ℕ) (time n k : ℕ)
    → (h : ClusterAt) (w : World ℕ) → slice_get w.clusters n ≡ Some h → AreDueNext time k h
    → w.left < k
    → all_firings model flat rules time n w ≡ Past (world_after model flat rules n h w w.left)

-- where none is due, nothing changes
abbrev pub NoneDueNoneFire : Type 0
NoneDueNoneFire = (model : PureTree) (flat : Flat) (rules : Rules ℕ) (time n : ℕ)
    → (h : ClusterAt) (w : World ℕ) → slice_get w.clusters n ≡ Some h
    → is_entry_due time h (next_entry h) ≡ false
    → all_firings model flat rules time n w ≡ Going w

-- in a plan by offset the entries that are due are counted by their offset
abbrev pub DueAreCounted : Type 0
DueAreCounted = (time : ℕ) (h : ClusterAt) → AreByOffset h.entries → h.place ≤ length h.entries
    → IsNotLate time h → AreDueNext time (due_from h.place (time - h.since) h.entries) h

-- a sampler reads its value once an entry, after what it had read
abbrev pub SamplersRead : Type 0
SamplersRead = (flat : Flat) (values : List Raw) (h : ClusterAt) (k m : ℕ)
    → h.place + k ≤ length h.entries → actor_kind flat.tables m ≡ Some actor.Sampler
    → m < length h.reads
    → slice_index_or (reads_after flat.tables values h k) m []
    ≡ slice_index_or h.reads m []
    ++ replicate (turns_from h.entries h.place (h.place + k) m) (value_for flat.tables values m)

-- a cluster in progress that does its entries of an offset comes to what the history says of it
-- after these firings
abbrev pub FiringsKeepAt : Type 0
FiringsKeepAt = (model : PureTree) (flat : Flat) (number time : ℕ) (values : List Raw)
    → (h : ClusterAt) (c d : ClusterOf) (inputs : List Raw)
    → IsCheckedOf model flat.checked → IsAt model flat number h c → AreByOffset c.entries
    → h.since ≤ time → next_offset c ≡ Some (time - h.since)
    → AreSettled flat.tables values (time - h.since) c inputs
    → IsClusterOf flat d → AreDone (time - h.since) c d
    → KeepsStanding flat (time - h.since) inputs c d
    → IsAt model flat number
    (after_firings flat.tables values h (due_count c (time - h.since))) d

-- its sinks took one sample an activation in each period before
abbrev pub SinksHaveTakenOne : Type 0
SinksHaveTakenOne = (model : PureTree) (flat : Flat) (number : ℕ) (h : ClusterAt) (c : ClusterOf)
    → IsFlatOf model flat → AreWithinLimits flat → IsAt model flat number h c
    → HaveTakenOne flat.tables number h

-- and what its sinks give is what the history says that they write
abbrev pub SinksWrite : Type 0
SinksWrite = (model : PureTree) (flat : Flat) (number time : ℕ) (values : List Raw)
    → (h : ClusterAt) (c d : ClusterOf) (inputs : List Raw) (before after : OutputsOf)
    → IsCheckedOf model flat.checked → IsAt model flat number h c → AreByOffset c.entries
    → HaveTakenOne flat.tables number h
    → h.since ≤ time → next_offset c ≡ Some (time - h.since)
    → AreSettled flat.tables values (time - h.since) c inputs → AreDone (time - h.since) c d
    → (gained : HasGained flat (time - h.since) inputs c d before after)
    → writes_after model flat values number h (due_count c (time - h.since))
    ≡ map (write_of flat.tables) gained.sent

module _ {K : Type 0} where
  -- what a cluster in progress has done within the turns is what the history does
  pub record GoesAlong (model : PureTree) (flat : Flat) (rules : Rules K) (time n : ℕ)
      (h : ClusterAt) (w : World K) (d : ClusterOf) (sent : List Sent) (rest : ℕ) : Type 0 where
    pub after : ClusterAt
    pub at : IsAt model flat (n + 1) after d
    pub since_is : after.since ≡ h.since
    pub goes : all_firings model flat rules time n w ≡ Going (record w {
      clusters = slice_set w.clusters n after;
      left = rest;
      written = w.written ++ map (write_of flat.tables) sent;
    })

-- so it is for all that it has done
abbrev pub FiredGoesAlong : Type 0
FiredGoesAlong = (model : PureTree) (flat : Flat) (rules : Rules ℕ) (time n : ℕ)
    → (h : ClusterAt) (w : World ℕ) (c d : ClusterOf) (inputs : List Raw)
    → (before after : OutputsOf) (rest : ℕ) → IsCheckedOf model flat.checked
    → IsFlatOf model flat → AreWithinLimits flat → slice_get w.clusters n ≡ Some h
    → IsAt model flat (n + 1) h c → AreByOffset c.entries → h.since ≤ time
    → next_offset c ≡ Some (time - h.since)
    → AreSettled flat.tables (settled_values rules w) (time - h.since) c inputs
    → (fired : HasFired flat (time - h.since) inputs c d before after w.left rest)
    → GoesAlong model flat rules time n h w d fired.gained.sent rest

-- where the turns were too few, the history is spent
abbrev pub TooFewIsSpent : Type 0
TooFewIsSpent = (model : PureTree) (flat : Flat) (rules : Rules ℕ) (time n : ℕ)
    → (h : ClusterAt) (w : World ℕ) (c d : ClusterOf) (before after : OutputsOf) (rest : ℕ)
    → slice_get w.clusters n ≡ Some h → IsAt model flat (n + 1) h c → AreByOffset c.entries
    → h.since ≤ time → next_offset c ≡ Some (time - h.since)
    → HasTooFew (time - h.since) c d before after w.left rest
    → all_firings model flat rules time n w ≡ Past (world_after model flat rules n h w w.left)
