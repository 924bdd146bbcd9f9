-- The pass over all clusters at one time, in order of number: each has its turn.
-- Source: own.
use Rattle.std.specs.Prelude.{◌≡◌, ◌≤◌, ◌-◌, ◌+◌, ℕ, zero, suc, true, false, List, [], ◌∷◌, ◌++◌, if◌then◌else◌, Option, Some, drop, length, map, slice_get, slice_set}
use Rattle.tdf_bind_tables.specs.FlatTables.{FlatTablesOf}
use Rattle.tdf_convert.specs.Outputs.{OutputsOf}
use Rattle.tdf_convert.specs.Sampled.{AreByOffset}
use Rattle.tdf_convert.specs.declared.outputs.Sent.{Sent}
use Rattle.tdf_exec.specs.Cluster.{ClusterOf, is_next_due}
use Rattle.tdf_exec.specs.Gained.{sent_size, size_due, traced_size}
use Rattle.tdf_exec.specs.Made.{IsClusterOf}
use Rattle.tdf_exec.specs.Played.{AreInputsFor}
use Rattle.tdf_exec.specs.declared.runners.Runner.{Runner}
use Rattle.tdf_expr.specs.Checked.{IsCheckedOf}
use Rattle.tdf_fixed.specs.declared.raw.Raw.{Raw}
use Rattle.tdf_bind.specs.Flat.{IsFlatOf}
use Rattle.tdf_bind.specs.declared.model.Flat.{Flat}
use Rattle.tdf_sim_history.specs.Instant.{all_firings}
use Rattle.tdf_sim_history.specs.World.{ClusterAt, Rules, World}
use Rattle.tdf_sim_history.specs.History.{Going, Past, turns_to}
use Rattle.tdf_bind_invariants.specs.Limits.{AreWithinLimits}
use Rattle.tdf_sim_refinement.specs.At.{AreSettled, IsAt}
use Rattle.tdf_sim_refinement.specs.Fired.{HasFired, HasTooFew}
use Rattle.tdf_sim_refinement.specs.Firings.{settled_values, world_after, write_of}
use Rattle.tdf_lang_tree.specs.Pure.{PureTree}
use Rattle.tdf_sim_refinement.specs.declared.turns.Moment.{Moment}

-- the clusters in progress, what they gave, and the turns that are left
pub record RunOf : Type 0 where
  pub clusters : List ClusterOf
  pub outputs : OutputsOf
  pub left : ℕ

-- what a pass goes by: the time, and by cluster the start of its period and what its samplers read
pub record PassAt : Type 0 where
  pub time : ℕ
  pub since : List ℕ
  pub inputs : List (List Raw)

abbrev pub pass_run : List ClusterOf → OutputsOf → (left : ℕ) → RunOf
pass_run clusters outputs left = record { clusters = clusters; outputs = outputs; left = left }

abbrev pub pass_at : (time : ℕ) → (since : List ℕ) → (inputs : List (List Raw)) → PassAt
pass_at time since inputs = record { time = time; since = since; inputs = inputs }

-- as the code has it
abbrev pub pass_of : Moment → PassAt
pass_of moment = pass_at moment.time moment.since.now moment.inputs.now

-- the cluster that has its turn, before and after it
pub record TurnAt : Type 0 where
  pub before : ClusterOf
  pub after : ClusterOf
  pub since : ℕ
  pub inputs : List Raw

-- cluster n has this turn; nothing else changes
pub record IsTurnOf (pass : PassAt) (n : ℕ) (x y : RunOf) (turn : TurnAt) : Type 0 where
  pub before : slice_get x.clusters n ≡ Some turn.before
  pub after : y.clusters ≡ slice_set x.clusters n turn.after
  pub since : slice_get pass.since n ≡ Some turn.since
  pub inputs : slice_get pass.inputs n ≡ Some turn.inputs

-- no entry is due in it, and nothing happens
pub record HasIdled (time : ℕ) (turn : TurnAt) (x y : RunOf) (sent : List Sent) : Type 0 where
  pub none : is_next_due turn.before (time - turn.since) ≡ false
  pub same : turn.after ≡ turn.before
  pub outputs : y.outputs ≡ x.outputs
  pub left : y.left ≡ x.left
  pub nothing : sent ≡ []

-- entries are due in it, and the cluster does them
pub record HasDoneTurn (flat : Flat) (time : ℕ) (turn : TurnAt) (x y : RunOf) (sent : List Sent)
    : Type 0 where
  pub due : is_next_due turn.before (time - turn.since) ≡ true
  pub fired : HasFired flat (time - turn.since) turn.inputs turn.before turn.after
      x.outputs y.outputs x.left y.left
  pub sent_is : sent ≡ fired.gained.sent

-- entries are due in it, and the turns that are left are too few
pub record HasEnded (time : ℕ) (turn : TurnAt) (x y : RunOf) : Type 0 where
  pub due : is_next_due turn.before (time - turn.since) ≡ true
  pub few : HasTooFew (time - turn.since) turn.before turn.after
      x.outputs y.outputs x.left y.left

pub data PassHasTurn (flat : Flat) (pass : PassAt) (n : ℕ) (x y : RunOf) (sent : List Sent)
    : Type 0 where
  Idle : (turn : TurnAt) → IsTurnOf pass n x y turn → HasIdled pass.time turn x y sent
      → PassHasTurn flat pass n x y sent
  Done : (turn : TurnAt) → IsTurnOf pass n x y turn → HasDoneTurn flat pass.time turn x y sent
      → PassHasTurn flat pass n x y sent

-- the first n clusters have had their turns, and sent these
unfoldable pub HavePassed : Flat → PassAt → (n : ℕ) → (x y : RunOf) → List Sent → Type 0
HavePassed flat pass zero x y sent = (y ≡ x) × (sent ≡ [])
HavePassed flat pass (suc n) x y sent = (mid : RunOf) × (s : List Sent) × (t : List Sent)
    × HavePassed flat pass n x mid s × PassHasTurn flat pass n mid y t × (sent ≡ s ++ t)

-- the turns end in that of cluster n
pub record HasPassedTo (flat : Flat) (pass : PassAt) (n : ℕ) (x y : RunOf) : Type 0 where
  pub mid : RunOf
  pub sent : List Sent
  pub passed : HavePassed flat pass n x mid sent
  pub turn : TurnAt
  pub is : IsTurnOf pass n mid y turn
  pub ended : HasEnded pass.time turn mid y

-- the turns end in that of one of the clusters
pub record HasPassedPart (flat : Flat) (pass : PassAt) (x y : RunOf) : Type 0 where
  pub number : ℕ
  pub to : HasPassedTo flat pass number x y

-- all clusters have had their turns
pub record HasPassedAll (flat : Flat) (pass : PassAt) (x y : RunOf) : Type 0 where
  pub sent : List Sent
  pub passed : HavePassed flat pass (length x.clusters) x y sent

-- how many samples a cluster gives in its turn
abbrev pub turn_size : (size : Option Runner → ℕ) → (time since : ℕ) → ClusterOf → ℕ
turn_size size time since c =
    if is_next_due c (time - since)
    then size_due size c.runners (time - since) (drop c.place c.entries)
    else 0

-- how many the clusters give in their turns, each with the start of its period
unfoldable pub pass_size : (size : Option Runner → ℕ) → (time : ℕ) → (since : List ℕ)
    → List ClusterOf → ℕ
pass_size size time (s ∷ since) (c ∷ clusters) =
    turn_size size time s c + pass_size size time since clusters
pass_size size time since clusters = 0

-- the outputs have room for what all clusters give in a pass
pub record HaveRoomForAll (pass : PassAt) (x : RunOf) : Type 0 where
  pub sent : length x.outputs.sent + pass_size sent_size pass.time pass.since x.clusters
      ≤ x.outputs.sent_room
  pub traced : length x.outputs.traced + pass_size traced_size pass.time pass.since x.clusters
      ≤ x.outputs.traced_room

-- a pass can be done: each cluster is one of the flat model, has its start and its inputs, and
-- there is room for what all of them give
pub record CanPass (flat : Flat) (pass : PassAt) (x : RunOf) : Type 0 where
  pub since : length x.clusters ≤ length pass.since
  pub inputs : length x.clusters ≤ length pass.inputs
  pub begun : (n s : ℕ) → slice_get pass.since n ≡ Some s → s ≤ pass.time
  pub of : (n : ℕ) (c : ClusterOf) → slice_get x.clusters n ≡ Some c → IsClusterOf flat c
  pub given : (n s : ℕ) (c : ClusterOf) (inputs : List Raw) → slice_get x.clusters n ≡ Some c
      → slice_get pass.since n ≡ Some s → slice_get pass.inputs n ≡ Some inputs
      → is_next_due c (pass.time - s) ≡ true → AreInputsFor flat (pass.time - s) c inputs
  pub room : HaveRoomForAll pass x

-- all clusters are what the history says of them, and their periods began when it says
pub record AreAt (model : PureTree) (flat : Flat) (since : List ℕ) (hs : List ClusterAt)
    (cs : List ClusterOf) : Type 0 where
  pub same : length hs ≡ length cs
  pub each : (n : ℕ) (h : ClusterAt) (c : ClusterOf) → slice_get hs n ≡ Some h
      → slice_get cs n ≡ Some c → IsAt model flat (n + 1) h c
  pub begun : (n s : ℕ) (h : ClusterAt) → slice_get hs n ≡ Some h → slice_get since n ≡ Some s
      → s ≡ h.since

-- plans are by offset, periods have begun, and inputs are what the samplers that are due read
pub record AreReady (tables : FlatTablesOf) (pass : PassAt) (values : List Raw)
    (cs : List ClusterOf)
    : Type 0 where
  pub sorted : (n : ℕ) (c : ClusterOf) → slice_get cs n ≡ Some c → AreByOffset c.entries
  pub begun : (n s : ℕ) → slice_get pass.since n ≡ Some s → s ≤ pass.time
  pub settled : (n s : ℕ) (c : ClusterOf) (inputs : List Raw) → slice_get cs n ≡ Some c
      → slice_get pass.since n ≡ Some s → slice_get pass.inputs n ≡ Some inputs
      → is_next_due c (pass.time - s) ≡ true → AreSettled tables values (pass.time - s) c inputs

module _ {K : Type 0} where
  -- a world in which clusters have come to this, and sent these
  abbrev pub world_with : FlatTablesOf → World K → List ClusterAt → (left : ℕ) → List Sent → World K
  world_with tables w clusters left sent = record w {
    clusters = clusters;
    left = left;
    written = w.written ++ map (write_of tables) sent;
  }

  -- the first n clusters have come to what the history says
  pub record PassesAlong (model : PureTree) (flat : Flat) (rules : Rules K) (pass : PassAt) (n : ℕ)
      (w : World K) (y : RunOf) (sent : List Sent) : Type 0 where
    pub clusters : List ClusterAt
    pub at : AreAt model flat pass.since clusters y.clusters
    pub goes : turns_to (all_firings model flat rules pass.time) n w
        ≡ Going (world_with flat.tables w clusters y.left sent)

  -- the history is spent in the turn of cluster n, after the firings that there were turns for
  pub record PassIsSpent (model : PureTree) (flat : Flat) (rules : Rules K) (pass : PassAt)
      (n all : ℕ) (w : World K) (y : RunOf) (sent : List Sent) : Type 0 where
    pub before : PassesAlong model flat rules pass n w y sent
    pub h : ClusterAt
    pub here : slice_get before.clusters n ≡ Some h
    pub ends : turns_to (all_firings model flat rules pass.time) all w ≡ Past (world_after model
        flat rules n h (world_with flat.tables w before.clusters y.left sent) y.left)

-- what clusters in progress have done in a pass is what the history does
abbrev pub PassGoesAlong : Type 0
PassGoesAlong = (model : PureTree) (flat : Flat) (rules : Rules ℕ) (pass : PassAt) (n : ℕ)
    → (w : World ℕ) (x y : RunOf) (sent : List Sent) → IsCheckedOf model flat.checked
    → IsFlatOf model flat → AreWithinLimits flat
    → AreAt model flat pass.since w.clusters x.clusters → w.left ≡ x.left
    → AreReady flat.tables pass (settled_values rules w) x.clusters
    → HavePassed flat pass n x y sent → PassesAlong model flat rules pass n w y sent

-- where the turns were too few in one of them, the history is spent
abbrev pub PassEndsSpent : Type 0
PassEndsSpent = (model : PureTree) (flat : Flat) (rules : Rules ℕ) (pass : PassAt) (n : ℕ)
    → (w : World ℕ) (x y : RunOf) → IsCheckedOf model flat.checked
    → IsFlatOf model flat → AreWithinLimits flat
    → AreAt model flat pass.since w.clusters x.clusters → w.left ≡ x.left
    → AreReady flat.tables pass (settled_values rules w) x.clusters
    → (ended : HasPassedTo flat pass n x y)
    → PassIsSpent model flat rules pass n (length w.clusters) w ended.mid ended.sent
