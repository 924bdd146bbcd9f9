-- How the parts of a run are made, by one look at each cluster.
-- Source: own.
use Rattle.std.specs.Prelude.{◌≡◌, ◌<◌, ◌≤◌, ◌+◌, ◌⊎◌, ℕ, List, Some, length, map, slice_get, sum}
use Rattle.tdf_bind.specs.declared.model.Flat.{Flat}
use Rattle.tdf_bind_tables.specs.FlatTables.{FlatTablesOf}
use Rattle.tdf_convert.specs.Links.{samplers_in}
use Rattle.tdf_convert.specs.declared.links.Links.{Links}
use Rattle.tdf_dynamic_first.specs.declared.first.First.{First}
use Rattle.tdf_sim_instants.specs.Engine.{IsRoomOf}
use Rattle.tdf_sim_refinement.specs.Below.{ClusterOf, HasLayoutOf, LayoutOf, Room}
use Rattle.tdf_sim_refinement.specs.Begun.{HaveBegun}
use Rattle.tdf_fixed.specs.declared.raw.Raw.{Raw}
use Rattle.tdf_sim_refinement.specs.Linked.{AreSamplerLinks}

abbrev pub room_of : (sent traced : ℕ) → Room
room_of sent traced = record { sent = sent; traced = traced }

-- clusters have begun in order of number, and what is laid out for those after them is still there
pub record HaveBegunWith (flat : Flat) (firsts : List First) (clusters : List ClusterOf)
    (layout : LayoutOf) : Type 0 where
  pub begun : HaveBegun flat firsts clusters
  pub left : (n : ℕ) → length clusters < n → HasLayoutOf flat n layout

-- the links of the first n clusters
pub record AreLinkedUpTo (tables : FlatTablesOf) (n : ℕ) (links : List Links) : Type 0 where
  pub long : length links ≡ n
  pub each : (m : ℕ) (l : Links) → slice_get links m ≡ Some l
      → AreSamplerLinks tables (m + 1) l.list.items

-- as many values for each of the first n clusters as it has samplers
pub record AreGivenUpTo (links : List Links) (n : ℕ) (inputs : List (List Raw)) : Type 0 where
  pub long : length inputs ≡ n
  pub each : (m : ℕ) (l : Links) (i : List Raw) → slice_get links m ≡ Some l
      → slice_get inputs m ≡ Some i → length i ≡ samplers_in l.list.items

-- the sums of rooms
abbrev pub whole_room : List Room → Room
whole_room rooms =
    room_of (sum (map (λ (r : Room). r.sent) rooms)) (sum (map (λ (r : Room). r.traced) rooms))

-- the rooms of the first n clusters
pub record AreRoomsUpTo (clusters : List ClusterOf) (n : ℕ) (rooms : List Room) : Type 0 where
  pub few : n ≤ length clusters
  pub long : length rooms ≡ n
  pub each : (m : ℕ) (c : ClusterOf) (room : Room) → slice_get clusters m ≡ Some c
      → slice_get rooms m ≡ Some room → IsRoomOf c room

-- the room of the cluster at a place is its own, and no other has changed
pub record HasRoomSet (n : ℕ) (clusters : List ClusterOf) (old new : List Room) : Type 0 where
  pub same : length new ≡ length old
  pub here : (c : ClusterOf) (room : Room) → slice_get clusters n ≡ Some c
      → slice_get new n ≡ Some room → IsRoomOf c room
  pub others : (m : ℕ) → (m ≡ n → ⊥) → slice_get new m ≡ slice_get old m

-- the rooms of all clusters but for those at these places from the k-th on
pub record AreRoomsFrom (places : List ℕ) (k : ℕ) (clusters : List ClusterOf) (rooms : List Room)
    : Type 0 where
  pub same : length rooms ≡ length clusters
  pub each : (n : ℕ) (c : ClusterOf) (room : Room) → slice_get clusters n ≡ Some c
      → slice_get rooms n ≡ Some room
      → ((j : ℕ) → k ≤ j → slice_get places j ≡ Some n → ⊥) → IsRoomOf c room

-- none of the first n starts is below it, and it is one of them or the limit
pub record IsLeastUpTo (since : List ℕ) (n limit least : ℕ) : Type 0 where
  pub each : (m s : ℕ) → m < n → slice_get since m ≡ Some s → least ≤ s
  pub within : least ≤ limit
  pub one : (least ≡ limit) ⊎ ((m : ℕ) × (slice_get since m ≡ Some least))
