-- Numbers of some of the things of a list, and values that stand at these numbers.
-- Source: own.
use Rattle.std.specs.Prelude.{ℕ, ◌≡◌, ◌≢◌, ◌<◌, List, length, slice_index}
pub use Rattle.tdf_places.specs.Places.{AllBelow, IsAmong, Rise}

-- the numbers below `count` of the things of a kind, rising
pub record AreNumbers (count : ℕ) (IsMeant : ℕ → Type 0) (numbers : List ℕ) : Type 0 where
  pub within : AllBelow count numbers
  pub rising : Rise numbers
  pub meant : (i : ℕ) → i < length numbers → IsMeant (slice_index numbers i)
  pub all : (m : ℕ) → m < count → IsMeant m → IsAmong numbers m

-- a list of `count` numbers that has values at some places, and 0 elsewhere
pub record AreSpread (numbers : List ℕ) (count : ℕ) (values all : List ℕ) : Type 0 where
  pub long : length all ≡ count
  pub at : (i : ℕ) → i < length numbers
      → slice_index all (slice_index numbers i) ≡ slice_index values i
  pub elsewhere : (m : ℕ) → ((i : ℕ) → i < length numbers → slice_index numbers i ≢ m)
      → slice_index all m ≡ 0
