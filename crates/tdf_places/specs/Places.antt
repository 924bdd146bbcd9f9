-- The places of some things of a model.
-- Source: own.
use Rattle.std.specs.Prelude.{ℕ, ◌<◌, ◌≡◌, ◌≢◌, List, length, slice_index}

pub record PlacesOf : Type 0 where
  -- the numbers of the things, by place
  pub numbers : List ℕ
  -- how many things of the kind the model has
  pub count : ℕ

-- a number stands at some place
abbrev pub IsAmong : List ℕ → ℕ → Type 0
IsAmong numbers m = (i : ℕ) × (i < length numbers) × (slice_index numbers i ≡ m)

-- each is below a number
abbrev pub AllBelow : (count : ℕ) → List ℕ → Type 0
AllBelow count numbers = (i : ℕ) → i < length numbers → slice_index numbers i < count

-- each is greater than those before it
abbrev pub Rise : List ℕ → Type 0
Rise numbers = (i j : ℕ) → i < j → j < length numbers
    → slice_index numbers i < slice_index numbers j

-- numbers below `count`, none twice
pub record AreDistinct (count : ℕ) (numbers : List ℕ) : Type 0 where
  pub within : AllBelow count numbers
  pub once : (i j : ℕ) → i < length numbers → j < length numbers
      → slice_index numbers i ≡ slice_index numbers j → i ≡ j

abbrev pub StandApart : PlacesOf → Type 0
StandApart places = AreDistinct places.count places.numbers

-- none of the things has this number
abbrev pub IsNowhere : PlacesOf → ℕ → Type 0
IsNowhere places m = (i : ℕ) → i < length places.numbers → slice_index places.numbers i ≢ m
