-- The numbers of a list that are not 0, with their places.
-- Source: own.
use Rattle.std.specs.Prelude.{ℕ, ◌<◌, ◌≡◌, List, length, map, slice_index}
use Rattle.tdf_places.specs.Places.{AllBelow, Rise}
use Rattle.tdf_places.specs.Spread.{spread_by}
use Rattle.tdf_places.specs.declared.sparse.Kept.{Kept}

abbrev pub places_of : List Kept → List ℕ
places_of kept = map (λ (k : Kept). k.place) kept

abbrev pub values_of : List Kept → List ℕ
values_of kept = map (λ (k : Kept). k.value) kept

-- the whole list
abbrev pub whole_list : (count : ℕ) → List Kept → List ℕ
whole_list count kept = spread_by count 0 (places_of kept) (values_of kept)

-- places of a list of so many numbers, rising, and numbers that are not 0
pub record AreKept (count : ℕ) (kept : List Kept) : Type 0 where
  pub within : AllBelow count (places_of kept)
  pub rising : Rise (places_of kept)
  pub some : (i : ℕ) → i < length (values_of kept) → 0 < slice_index (values_of kept) i

-- this value stands at a place, and is the one at i of those that are kept
pub record IsKeptAt (kept : List Kept) (i place value : ℕ) : Type 0 where
  pub within : i < length kept
  pub here : slice_index (places_of kept) i ≡ place
  pub is : slice_index (values_of kept) i ≡ value

-- what is kept, at the place that some places have for its own
abbrev pub moved_by : (places : List ℕ) → Kept → Kept
moved_by places k = record k { place = slice_index places k.place }
