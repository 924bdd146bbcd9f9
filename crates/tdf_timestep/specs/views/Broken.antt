-- The first spot whose step isn't whole, while actors and then ports are looked at.
use Rattle.std.specs.Prelude.{ℕ, ◌≡◌, ◌<◌, true, false, List, Option, Some, None, ◌⊎◌}
use Rattle.std.specs.Int.{◌∣◌}
use Rattle.tdf_graph.specs.declared.actors.Port.{Port}
use Rattle.tdf_timestep.specs.Order.{spot_comes_before}
use Rattle.tdf_timestep.specs.Period.{share_of, IsPortOf}
use Rattle.tdf_timestep.specs.declared.assign.Spot.{Spot}

-- a share that is some and doesn't divide the period
pub record IsUnwhole (share period : ℕ) : Type 0 where
  pub some : 0 < share
  pub broken : share ∣ period → ⊥

-- a spot, or the best one before, whichever comes first
abbrev pub IsLesser : Option Spot → Spot → Option Spot → Type 0
IsLesser None spot result = result ≡ Some spot
IsLesser (Some best) spot result =
    ((result ≡ Some spot) × (spot_comes_before spot best ≡ true))
    ⊎ ((result ≡ Some best) × (spot_comes_before spot best ≡ false))

pub record IsConsidered (ports : List Port) (counts : List ℕ) (period : ℕ) (best : Option Spot)
    (spot : Spot) (result : Option Spot) : Type 0 where
  pub taken : IsUnwhole (share_of ports counts spot) period → IsLesser best spot result
  pub left : (IsUnwhole (share_of ports counts spot) period → ⊥) → result ≡ best

-- the actors below `actors` and the ports below `last`
abbrev pub IsPortSeen : List Port → (actors last actor : ℕ) → Option ℕ → Type 0
IsPortSeen ports actors last actor None = actor < actors
IsPortSeen ports actors last actor (Some p) = (p < last) × IsPortOf ports actor (Some p)

abbrev pub IsSeen : List Port → (actors last : ℕ) → Spot → Type 0
IsSeen ports actors last s = IsPortSeen ports actors last s.actor s.port

-- the first of these whose step isn't whole
pub record IsLeastSpot (ports : List Port) (counts : List ℕ) (period : ℕ) (Seen : Spot → Type 0)
    (s : Spot) : Type 0 where
  pub seen : Seen s
  pub unwhole : IsUnwhole (share_of ports counts s) period
  pub first : (t : Spot) → Seen t → IsUnwhole (share_of ports counts t) period
      → spot_comes_before t s ≡ false

abbrev pub IsFirstAmong : List Port → List ℕ → ℕ → (Spot → Type 0) → Option Spot → Type 0
IsFirstAmong ports counts period Seen None =
    (t : Spot) → Seen t → IsUnwhole (share_of ports counts t) period → ⊥
IsFirstAmong ports counts period Seen (Some s) = IsLeastSpot ports counts period Seen s
