-- Actors in parts, each part with a label.
-- Source: own.
use Rattle.std.specs.Prelude.{ℕ, ◌≡◌, ◌≢◌, ◌<◌, ◌≤◌, List, Some, length, nat_eq, if◌then◌else◌, ◌⊎◌, slice_get, slice_index, Contains}
use Rattle.smallvec.specs.SmallVec.{SmallVec}
use Rattle.tdf_graph.specs.Clusters.{Joined}
use Rattle.tdf_graph.specs.declared.actors.Edge.{Edge}

-- each of `count` actors is a part of its own
pub record AreAlone (count : ℕ) (labels : List ℕ) : Type 0 where
  pub long : length labels ≡ count
  pub each : (a : ℕ) → a < count → slice_index labels a ≡ a

-- the actors with a label, each once
pub record ListsPart (labels : List ℕ) (label : ℕ) (list : List ℕ) : Type 0 where
  pub within : (i : ℕ) → i < length list → slice_index list i < length labels
  pub only : (i : ℕ) → i < length list → slice_index labels (slice_index list i) ≡ label
  pub all : (a : ℕ) → a < length labels → slice_index labels a ≡ label → Contains list a
  pub once : (i j : ℕ) → i < j → j < length list → slice_index list i ≢ slice_index list j

abbrev pub renamed : (gone kept label : ℕ) → ℕ
renamed gone kept label = if nat_eq label gone then kept else label

-- the actors with the label `gone` have the label `kept`
pub record IsRenamed (gone kept : ℕ) (old new : List ℕ) : Type 0 where
  pub long : length new ≡ length old
  pub each : (a : ℕ) → a < length old → slice_index new a ≡ renamed gone kept (slice_index old a)

-- the parts of two labels are one
abbrev pub Merges : (first second : ℕ) (old new : List ℕ) → Type 0
Merges first second old new = IsRenamed first second old new ⊎ IsRenamed second first old new

-- of two parts, given by their lists, the one with fewer actors takes the label of the other
pub record MovesFewer (first second : ℕ) (old new : List ℕ) : Type 0 where
  pub mine : List ℕ
  pub other : List ℕ
  pub first_list : ListsPart old first mine
  pub second_list : ListsPart old second other
  pub moved : ((length mine < length other) × IsRenamed first second old new)
      ⊎ ((length other ≤ length mine) × IsRenamed second first old new)

-- how parts are kept: for each label the list of its actors
pub record HasMembers (labels : List ℕ) (members : List (SmallVec ℕ)) : Type 0 where
  pub rows : length members ≡ length labels
  pub small : (a : ℕ) → a < length labels → slice_index labels a < length labels
  pub lists : (l : ℕ) (row : SmallVec ℕ) → slice_get members l ≡ Some row
      → ListsPart labels l row.items

-- the parts are those that these edges connect
pub record AreLabels (count : ℕ) (edges : List Edge) (labels : List ℕ) : Type 0 where
  pub long : length labels ≡ count
  pub small : (a : ℕ) → a < count → slice_index labels a < count
  pub joined : (a b : ℕ) → a < count → b < count
      → slice_index labels a ≡ slice_index labels b → Joined edges a b
  pub ends : (e : Edge) → Contains edges e
      → slice_index labels e.writer ≡ slice_index labels e.reader
