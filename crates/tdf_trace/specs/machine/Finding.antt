-- Finding what is kept of a signal by its number.
-- Source: own.
use Rattle.std.specs.Prelude.{◌≡◌, ℕ, Option, Some, None, List, slice_get}
use Rattle.tdf_trace.specs.Tracked.{TrackedOf}
use Rattle.tdf_trace.specs.machine.Showing.{AreColumns}

-- the place of a signal
abbrev pub place_in : Option (Option ℕ) → Option ℕ
place_in None = None
place_in (Some place) = place

abbrev pub found : List (Option ℕ) → (signal : ℕ) → Option ℕ
found places signal = place_in (slice_get places signal)

-- a signal stands at this place
pub record StandsAt (list : List TrackedOf) (signal place : ℕ) : Type 0 where
  pub it : TrackedOf
  pub there : slice_get list place ≡ Some it
  pub same : it.signal ≡ signal

-- the places are those of the signals
pub record Finds (places : List (Option ℕ)) (list : List TrackedOf) : Type 0 where
  pub there : (signal place : ℕ) → found places signal ≡ Some place → StandsAt list signal place
  pub back : (place : ℕ) (t : TrackedOf) → slice_get list place ≡ Some t
      → found places t.signal ≡ Some place

-- the columns of all are those of a trace with so many
abbrev pub HaveColumns : (width : ℕ) → List TrackedOf → Type 0
HaveColumns width list = (place : ℕ) (t : TrackedOf) → slice_get list place ≡ Some t
    → AreColumns width t.columns

-- no signal has this number
abbrev pub HasNone : List TrackedOf → (signal : ℕ) → Type 0
HasNone list signal =
    (place : ℕ) (t : TrackedOf) → slice_get list place ≡ Some t → t.signal ≡ signal → ⊥

abbrev pub IsPlaceOf : List TrackedOf → (signal : ℕ) → Option ℕ → Type 0
IsPlaceOf list signal None = HasNone list signal
IsPlaceOf list signal (Some place) = StandsAt list signal place
