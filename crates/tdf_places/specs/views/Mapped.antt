-- A map from numbers to their places.
-- Source: own.
use Rattle.std.specs.Prelude.{ℕ, ◌<◌, ◌≡◌, List, length, slice_index}

-- the map has the places of the first n numbers
pub record AreMappedUpTo (n : ℕ) (numbers map : List ℕ) : Type 0 where
  pub within : (i : ℕ) → i < n → slice_index numbers i < length map
  pub back : (i : ℕ) → i < n → slice_index map (slice_index numbers i) ≡ i

abbrev pub AreMapped : (numbers map : List ℕ) → Type 0
AreMapped numbers map = AreMappedUpTo (length numbers) numbers map
