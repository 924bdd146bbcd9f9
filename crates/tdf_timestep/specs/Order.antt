-- Modules and their ports in order: by actor, the module itself before its ports.
-- Source: own.
use Rattle.std.specs.Prelude.{ℕ, ◌≡◌, ◌<◌, ◌+◌, Bool, true, false, ◌&&◌, ◌||◌, nat_lt, nat_eq, List, Option, Some, None, slice_get}
use Rattle.tdf_timestep.specs.declared.assign.Assign.{Assign}
use Rattle.tdf_timestep.specs.declared.assign.Spot.{Spot}

abbrev pub port_rank : Option ℕ → ℕ
port_rank None = 0
port_rank (Some p) = p + 1

abbrev pub is_before : (actor rank other_actor other_rank : ℕ) → Bool
is_before actor rank other_actor other_rank =
    nat_lt actor other_actor || (nat_eq actor other_actor && nat_lt rank other_rank)

abbrev pub spot_comes_before : Spot → Spot → Bool
spot_comes_before a b = is_before a.actor (port_rank a.port) b.actor (port_rank b.port)

abbrev pub spot_of : Assign → Spot
spot_of a = record { actor = a.actor; port = a.port }

-- the first assignment with a property; of two for the same spot the one that was given first
pub record IsFirstAssigned (assigned : List Assign) (P : Assign → Type 0) (place : ℕ) : Type 0 where
  pub chosen : Assign
  pub there : slice_get assigned place ≡ Some chosen
  pub holds : P chosen
  pub least : (j : ℕ) (a : Assign) → slice_get assigned j ≡ Some a → P a
      → spot_comes_before (spot_of a) (spot_of chosen) ≡ false
  pub earliest : (j : ℕ) (a : Assign) → j < place → slice_get assigned j ≡ Some a → P a
      → spot_comes_before (spot_of chosen) (spot_of a) ≡ true
