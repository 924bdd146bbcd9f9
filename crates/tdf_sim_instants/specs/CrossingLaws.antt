-- What the boundaries of all clusters at one time are to the history, which is told what each of
-- them leads to.
-- Source: own.
use Rattle.std.specs.Prelude.{◌≡◌, ◌<◌, ◌≤◌, ℕ, true, false, List, [], All, Some, length, option_map, slice_get}
use Rattle.tdf_sim_instants.specs.Crossing.{CrossingOf, HasNoTurn, HasStopped, HaveCrossed}
use Rattle.tdf_base.specs.declared.faults.Fault.{Fault}
use Rattle.tdf_bind_tables.specs.FlatTables.{FlatTablesOf}
use Rattle.tdf_dynamic_plans.specs.Attributes.{AttrsOf}
use Rattle.tdf_events.specs.Side.{SideOf}
use Rattle.tdf_sim_refinement.specs.Below.{ClusterOf}
use Rattle.tdf_expr.specs.Checked.{IsCheckedOf}
use Rattle.tdf_bind.specs.declared.model.Flat.{Flat}
use Rattle.tdf_sim_history.specs.Answers.{AreFirstAnswers, OfFirst}
use Rattle.tdf_sim_history.specs.Instant.{at_begin, boundary, is_over, with_new, with_same}
use Rattle.tdf_sim_history.specs.Telling.{IsTold, world_told}
use Rattle.tdf_sim_history.specs.Texts.{plan_of}
use Rattle.tdf_sim_history.specs.World.{Change, ClusterAt, World}
use Rattle.tdf_sim_history.specs.History.{Fault as Faulted, Going, Past, turns_to}
use Rattle.tdf_bind_invariants.specs.Limits.{AreWithinLimits}
use Rattle.tdf_dynamic_texts.specs.Plans.{PlanRows}
use Rattle.tdf_sim_refinement.specs.Pass.{AreAt}
use Rattle.tdf_schedule.specs.declared.entry.Entry.{Entry}
use Rattle.tdf_lang_tree.specs.Pure.{PureTree}
use Rattle.tdf_sim_history.specs.Continuing.{HasToldCounts}

-- a cluster of the history after its boundary at a time: it is as it was, or its next period began,
-- with the same plan or with a new one
pub data Becomes (tables : FlatTablesOf) (time : ℕ) (h g : ClusterAt) : Type 0 where
  Stayed : is_over time h ≡ false → g ≡ h → Becomes tables time h g
  Began : (table : List AttrsOf) → is_over time h ≡ true → g ≡ with_same time table h
      → Becomes tables time h g
  Changed : (table : List AttrsOf) (counts : List ℕ) (period : ℕ) (entries : List Entry)
      → (bounds : List ℕ) → is_over time h ≡ true
      → g ≡ with_new tables time table counts period entries bounds h → Becomes tables time h g

-- the plan of a cluster in progress
abbrev pub rows_in : ClusterOf → PlanRows
rows_in c = record { entries = c.entries; bounds = c.bounds; period = c.period }

-- clusters in progress have the plans that the history has
abbrev pub HavePlansOf : List ClusterAt → List ClusterOf → Type 0
HavePlansOf hs cs = (n : ℕ)
    → option_map plan_of (slice_get hs n) ≡ option_map rows_in (slice_get cs n)

module _ {K : Type 0} where
  abbrev pub world_crossed : World K → List ClusterAt → (left : ℕ) → (planned : List ℕ) → World K
  world_crossed w clusters left planned =
      record (at_begin w) { clusters = clusters; left = left; planned = planned }

  -- what is told of the boundaries of an instant that begins with w: of each that has its turn, its
  -- answer, and a new plan with its counts
  pub record AreToldAt (model : PureTree) (flat : Flat) (time n : ℕ) (w : World K)
      (told : List (List Change)) : Type 0 where
    pub some : OfFirst flat.tables time n (world_told told w) (λ number c. IsTold c)
    pub answers : AreFirstAnswers model flat time n (world_told told w)
    pub counts : All (All HasToldCounts) told

  -- the boundaries of the first n clusters are those of the history
  pub record CrossesAlong (model : PureTree) (flat : Flat) (time n : ℕ) (w : World K)
      (y : CrossingOf) : Type 0 where
    pub told : List (List Change)
    pub are_told : AreToldAt model flat time n w told
    pub clusters : List ClusterAt
    pub at : AreAt model flat y.since clusters y.clusters
    pub became : (m : ℕ) (h g : ClusterAt) → slice_get w.clusters m ≡ Some h
        → slice_get clusters m ≡ Some g → m < n → Becomes flat.tables time h g
    pub rest : (m : ℕ) → n ≤ m → slice_get clusters m ≡ slice_get w.clusters m
    pub goes : turns_to (boundary flat.tables time) n (at_begin (world_told told w))
        ≡ Going (world_crossed w clusters y.left y.planned)

  -- the world in which the boundaries end has the plans that there are, and those that are new
  pub record HasPlansOf (v : World K) (y : CrossingOf) : Type 0 where
    pub plans : HavePlansOf v.clusters y.clusters
    pub planned : v.planned ≡ y.planned

  -- no turn is left for one of them, and the history is spent
  pub record CrossingIsSpent (model : PureTree) (flat : Flat) (time : ℕ) (w : World K)
      (y : CrossingOf) : Type 0 where
    pub told : List (List Change)
    pub are_told : (n : ℕ) → AreToldAt model flat time n w told
    pub last : World K
    pub has : HasPlansOf last y
    pub goes : turns_to (boundary flat.tables time) (length w.clusters)
        (at_begin (world_told told w)) ≡ Past last

  -- one of them leads to a fault, and so it does in the history
  pub record CrossingStops (model : PureTree) (flat : Flat) (time number : ℕ) (fault : Fault)
      (w : World K) (y : CrossingOf) : Type 0 where
    pub told : List (List Change)
    pub are_told : (n : ℕ) → AreToldAt model flat time n w told
    pub last : World K
    pub has : HasPlansOf last y
    pub goes : turns_to (boundary flat.tables time) (length w.clusters)
        (at_begin (world_told told w))
        ≡ Faulted (record { cluster = number; fault = fault }) last

-- all that is crossing is what there is in the history before an instant
pub record IsCrossing (model : PureTree) (flat : Flat) (w : World SideOf) (x : CrossingOf)
    : Type 0 where
  pub checked : IsCheckedOf model flat.checked
  pub limits : AreWithinLimits flat
  pub at : AreAt model flat x.since w.clusters x.clusters
  pub left : w.left ≡ x.left
  pub none : x.planned ≡ []

-- the boundaries of all clusters are those of the history
abbrev pub CrossingGoesAlong : Type 0
CrossingGoesAlong = (model : PureTree) (flat : Flat) (time : ℕ) (w : World SideOf)
    → (x y : CrossingOf) → IsCrossing model flat w x
    → HaveCrossed flat time (length x.clusters) x y
    → CrossesAlong model flat time (length w.clusters) w y

-- where no turn is left for one of them, the history is spent
abbrev pub CrossingEndsSpent : Type 0
CrossingEndsSpent = (model : PureTree) (flat : Flat) (time : ℕ) (w : World SideOf)
    → (x y : CrossingOf) → IsCrossing model flat w x → HasNoTurn flat time x y
    → CrossingIsSpent model flat time w y

-- where one of them leads to a fault, the history ends with it
abbrev pub CrossingEndsStopped : Type 0
CrossingEndsStopped = (model : PureTree) (flat : Flat) (time number : ℕ) (fault : Fault)
    → (w : World SideOf) (x y : CrossingOf) → IsCrossing model flat w x
    → HasStopped flat time number fault x y → CrossingStops model flat time number fault w y
