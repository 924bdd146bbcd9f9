-- The boundaries of all clusters at one time, in order of number: each whose period ends then takes
-- a turn and begins its next one, or what its modules ask for has a fault.
-- Source: own; changes of attributes between periods after IEEE 1666.1-2016.
use Rattle.std.specs.Prelude.{◌≡◌, ◌<◌, ◌≤◌, ◌+◌, ◌-◌, ◌&&◌, ◌++◌, ℕ, zero, suc, Bool, true, false, List, [], ◌∷◌, Some, is_none, length, nat_eq, slice_get, slice_set}
use Rattle.tdf_base.specs.declared.faults.Fault.{Fault}
use Rattle.tdf_dynamic.specs.declared.next.Next.{Next}
use Rattle.tdf_dynamic.specs.declared.next.Next.TheVariants as answer
use Rattle.tdf_sim_refinement.specs.Below.{ClusterOf, HasCrossed as HasLeft, HasNoChanges, IsClusterOf, next_offset}
use Rattle.tdf_bind.specs.declared.model.Flat.{Flat}
use Rattle.tdf_sim_history.specs.World.{Refused}
use Rattle.tdf_sim_refinement.specs.Boundary.{HasAnswered, HasPassedBoundary}

-- the clusters, the start of the period of each, the turns that are left, and which clusters got a
-- new plan
pub record CrossingOf : Type 0 where
  pub clusters : List ClusterOf
  pub since : List ℕ
  pub left : ℕ
  pub planned : List ℕ

abbrev pub crossing_of : List ClusterOf → (since : List ℕ) → (left : ℕ) → (planned : List ℕ)
    → CrossingOf
crossing_of clusters since left planned =
    record { clusters = clusters; since = since; left = left; planned = planned }

-- the period of a cluster, which began at a time, ends at another
abbrev pub is_ending : (time since : ℕ) → ClusterOf → Bool
is_ending time since c = is_none (next_offset c) && nat_eq time (since + c.period)

-- a cluster before and after its turn, and the start of its period before and after
pub record EndingAt : Type 0 where
  pub before : ClusterOf
  pub after : ClusterOf
  pub since : ℕ
  pub begun : ℕ

abbrev pub ending_at : (since begun : ℕ) → (before after : ClusterOf) → EndingAt
ending_at since begun before after =
    record { before = before; after = after; since = since; begun = begun }

-- cluster n has this turn; nothing else changes
pub record IsEndingOf (n : ℕ) (x y : CrossingOf) (turn : EndingAt) : Type 0 where
  pub before : slice_get x.clusters n ≡ Some turn.before
  pub since : slice_get x.since n ≡ Some turn.since
  pub after : y.clusters ≡ slice_set x.clusters n turn.after
  pub begun : y.since ≡ slice_set x.since n turn.begun

-- its period goes on, and nothing happens
pub record HasGoneOn (time : ℕ) (turn : EndingAt) (left rest : ℕ) : Type 0 where
  pub going : is_ending time turn.since turn.before ≡ false
  pub same : turn.after ≡ turn.before
  pub kept : turn.begun ≡ turn.since
  pub turns : rest ≡ left

-- an answer has a new plan
abbrev pub is_new : Next → Bool
is_new answer.Same = false
is_new (answer.Changed attrs plan) = true

-- its period ends, for a turn, and the next one begins, with a new plan or with the same one
pub record HasCrossedBoundary (flat : Flat) (time : ℕ) (new : Bool) (turn : EndingAt)
    (left rest : ℕ)
    : Type 0 where
  pub over : is_ending time turn.since turn.before ≡ true
  pub some : 0 < left
  pub next : Next
  pub new_is : is_new next ≡ new
  pub between : ClusterOf
  pub passed : HasPassedBoundary flat next turn.before between turn.after
  pub now : turn.begun ≡ time
  pub turns : rest ≡ left - 1

-- cluster n, if it got a new plan
abbrev pub planned_if : Bool → (n : ℕ) → List ℕ
planned_if true n = n ∷ []
planned_if false n = []

pub data HasEnding (flat : Flat) (time n : ℕ) (x y : CrossingOf) : Type 0 where
  Open : (turn : EndingAt) → IsEndingOf n x y turn → HasGoneOn time turn x.left y.left
      → y.planned ≡ x.planned → HasEnding flat time n x y
  Over : (turn : EndingAt) (new : Bool) → IsEndingOf n x y turn
      → HasCrossedBoundary flat time new turn x.left y.left
      → y.planned ≡ x.planned ++ planned_if new n → HasEnding flat time n x y

-- the first n clusters have had their boundaries
unfoldable pub HaveCrossed : Flat → (time n : ℕ) → (x y : CrossingOf) → Type 0
HaveCrossed flat time zero x y = y ≡ x
HaveCrossed flat time (suc n) x y =
    (mid : CrossingOf) × HaveCrossed flat time n x mid × HasEnding flat time n mid y

-- no turn is left for the boundary of cluster n, after those before it have had theirs
pub record HasNoTurn (flat : Flat) (time : ℕ) (x y : CrossingOf) : Type 0 where
  pub number : ℕ
  pub passed : HaveCrossed flat time number x y
  pub cluster : ClusterOf
  pub since : ℕ
  pub here : slice_get y.clusters number ≡ Some cluster
  pub begun : slice_get y.since number ≡ Some since
  pub over : is_ending time since cluster ≡ true
  pub none : y.left ≡ 0

-- the period of a cluster ends, for a turn, and what its modules ask for has a fault
pub record IsRefusedAt (flat : Flat) (time : ℕ) (fault : Fault) (since : ℕ) (c d : ClusterOf)
    (left : ℕ) : Type 0 where
  pub over : is_ending time since c ≡ true
  pub some : 0 < left
  pub answered : HasAnswered flat c (Refused fault)
  pub crossed : HasLeft c d

-- so it is at the boundary of the cluster of this number, from 1, which took its turn, after those
-- before it have had theirs
pub record HasStopped (flat : Flat) (time number : ℕ) (fault : Fault) (x y : CrossingOf)
    : Type 0 where
  pub place : ℕ
  pub number_is : number ≡ place + 1
  pub mid : CrossingOf
  pub passed : HaveCrossed flat time place x mid
  pub since : ℕ
  pub cluster : ClusterOf
  pub after : ClusterOf
  pub here : slice_get mid.clusters place ≡ Some cluster
  pub begun : slice_get mid.since place ≡ Some since
  pub refused : IsRefusedAt flat time fault since cluster after mid.left
  pub clusters : y.clusters ≡ slice_set mid.clusters place after
  pub starts : y.since ≡ slice_set mid.since place time
  pub turns : y.left ≡ mid.left - 1
  pub planned : y.planned ≡ mid.planned

-- boundaries can be had: each cluster is one of the flat model and has a start
pub record CanCross (flat : Flat) (time : ℕ) (x : CrossingOf) : Type 0 where
  pub same : length x.since ≡ length x.clusters
  pub begun : (n s : ℕ) → slice_get x.since n ≡ Some s → s ≤ time
  pub of : (n : ℕ) (c : ClusterOf) → slice_get x.clusters n ≡ Some c → IsClusterOf flat c
  pub going : (n : ℕ) (c : ClusterOf) → slice_get x.clusters n ≡ Some c → c.crossed ≡ false

-- no module of these clusters has a body that changes attributes
abbrev pub NoneChanges : Flat → List ClusterOf → Type 0
NoneChanges flat clusters = (n : ℕ) (c : ClusterOf) → slice_get clusters n ≡ Some c
    → HasNoChanges flat.tables c.number
