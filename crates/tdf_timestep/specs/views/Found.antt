-- The first assignment with a property, while the list is looked through.
use Rattle.std.specs.Prelude.{ℕ, ◌≡◌, ◌≢◌, ◌<◌, true, false, List, Option, Some, None, slice_get, ◌⊎◌}
use Rattle.tdf_graph.specs.declared.actors.Port.{Port}
use Rattle.tdf_timestep.specs.Order.{spot_comes_before, spot_of, IsFirstAssigned}
use Rattle.tdf_timestep.specs.Period.{period_of}
use Rattle.tdf_timestep.specs.declared.assign.Assign.{Assign}

-- the first among the first n assignments
pub record IsFirstUpTo (n : ℕ) (assigned : List Assign) (P : Assign → Type 0) (place : ℕ)
    : Type 0 where
  pub within : place < n
  pub chosen : Assign
  pub there : slice_get assigned place ≡ Some chosen
  pub holds : P chosen
  pub least : (j : ℕ) (a : Assign) → j < n → slice_get assigned j ≡ Some a → P a
      → spot_comes_before (spot_of a) (spot_of chosen) ≡ false
  pub earliest : (j : ℕ) (a : Assign) → j < place → slice_get assigned j ≡ Some a → P a
      → spot_comes_before (spot_of chosen) (spot_of a) ≡ true

-- its place, if any has the property
abbrev pub IsFoundUpTo : ℕ → List Assign → (Assign → Type 0) → Option ℕ → Type 0
IsFoundUpTo n assigned P None =
    (j : ℕ) (a : Assign) → j < n → slice_get assigned j ≡ Some a → P a → ⊥
IsFoundUpTo n assigned P (Some place) = IsFirstUpTo n assigned P place

abbrev pub IsFound : List Assign → (Assign → Type 0) → Option ℕ → Type 0
IsFound assigned P None = (j : ℕ) (a : Assign) → slice_get assigned j ≡ Some a → P a → ⊥
IsFound assigned P (Some place) = IsFirstAssigned assigned P place

-- the assignment at a place, or the best one before, whichever comes first
abbrev pub IsBetter : List Assign → Option ℕ → ℕ → Option ℕ → Type 0
IsBetter assigned None place result = result ≡ Some place
IsBetter assigned (Some best) place result = (a b : Assign)
    → slice_get assigned place ≡ Some a → slice_get assigned best ≡ Some b
    → ((result ≡ Some place) × (spot_comes_before (spot_of a) (spot_of b) ≡ true))
    ⊎ ((result ≡ Some best) × (spot_comes_before (spot_of a) (spot_of b) ≡ false))

-- an assignment that gives another period
abbrev pub IsOther : List Port → List ℕ → ℕ → Assign → Type 0
IsOther ports counts period a = period_of ports counts a ≢ period
