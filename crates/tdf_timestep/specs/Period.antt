-- The period of a cluster, by the timesteps that are assigned to its modules and ports.
-- Source: IEEE 1666.1-2016, assignment and propagation of TDF timesteps; the faults are own.
use Rattle.std.specs.Prelude.{ℕ, ◌≡◌, ◌≢◌, ◌<◌, ◌≤◌, ◌*◌, false, List, Option, Some, None, length, slice_get, slice_index, Contains}
use Rattle.std.specs.Int.{◌∣◌}
use Rattle.tdf_base.specs.Limits.{time_end}
use Rattle.tdf_graph.specs.declared.actors.Port.{Port}
use Rattle.tdf_timestep.specs.Order.{spot_comes_before, spot_of, IsFirstAssigned}
use Rattle.tdf_timestep.specs.declared.assign.Assign.{Assign}
use Rattle.tdf_timestep.specs.declared.assign.Spot.{Spot}
use Rattle.tdf_timestep.specs.declared.assign.Steps.{Steps}

-- a spot of the cluster: an actor that fires, or one of its ports
abbrev pub IsPortOf : List Port → ℕ → Option ℕ → Type 0
IsPortOf ports actor None = Unit {0}
IsPortOf ports actor (Some p) = (x : Port) × (slice_get ports p ≡ Some x) × (x.actor ≡ actor)

pub record IsFiringSpot (ports : List Port) (counts : List ℕ) (s : Spot) : Type 0 where
  pub fires : 0 < slice_index counts s.actor
  pub own : IsPortOf ports s.actor s.port

-- samples in one firing; an actor itself counts as one
abbrev pub port_rate_or_one : Option Port → ℕ
port_rate_or_one None = 1
port_rate_or_one (Some x) = x.rate

abbrev pub rate_at_port : List Port → Option ℕ → ℕ
rate_at_port ports None = 1
rate_at_port ports (Some p) = port_rate_or_one (slice_get ports p)

-- what it does in one period: an actor fires, a port takes or gives samples
abbrev pub share_of : List Port → List ℕ → Spot → ℕ
share_of ports counts s = slice_index counts s.actor * rate_at_port ports s.port

-- the period that an assignment gives
abbrev pub period_of : List Port → List ℕ → Assign → ℕ
period_of ports counts a = share_of ports counts (spot_of a) * a.step

-- an assignment that may be given: its spot is one of the cluster, its step some time
pub record IsAssigned (ports : List Port) (counts : List ℕ) (a : Assign) : Type 0 where
  pub spot : IsFiringSpot ports counts (spot_of a)
  pub some : 1 ≤ a.step
  pub short : a.step < time_end

-- all assignments give this period
pub record AreAgreed (ports : List Port) (counts : List ℕ) (assigned : List Assign) (period : ℕ)
    : Type 0 where
  pub some : 0 < length assigned
  pub all : (a : Assign) → Contains assigned a → period_of ports counts a ≡ period

-- the first assignment, and the first one that gives another period than it
pub record IsDisagreed (ports : List Port) (counts : List ℕ) (assigned : List Assign) (a b : ℕ)
    : Type 0 where
  pub first : IsFirstAssigned assigned (λ _. Unit {0}) a
  pub other : IsFirstAssigned assigned
      (λ x. period_of ports counts x ≢ period_of ports counts first.chosen) b

pub record IsTooLong (ports : List Port) (counts : List ℕ) (assigned : List Assign) : Type 0 where
  pub period : ℕ
  pub agreed : AreAgreed ports counts assigned period
  pub long : time_end ≤ period

-- the step of a spot is not whole
abbrev pub IsBroken : List Port → List ℕ → ℕ → Spot → Type 0
IsBroken ports counts period s = share_of ports counts s ∣ period → ⊥

-- the first spot of the cluster whose step is not whole
pub record IsInexact (ports : List Port) (counts : List ℕ) (assigned : List Assign) (s : Spot)
    : Type 0 where
  pub period : ℕ
  pub agreed : AreAgreed ports counts assigned period
  pub short : period < time_end
  pub spot : IsFiringSpot ports counts s
  pub broken : IsBroken ports counts period s
  pub first : (t : Spot) → IsFiringSpot ports counts t → IsBroken ports counts period t
      → spot_comes_before t s ≡ false

-- the period of the cluster: all assignments give it, and each step is whole
pub record IsPeriod (ports : List Port) (counts : List ℕ) (assigned : List Assign) (period : ℕ)
    : Type 0 where
  pub agreed : AreAgreed ports counts assigned period
  pub short : period < time_end
  pub whole : (s : Spot) → IsFiringSpot ports counts s → share_of ports counts s ∣ period

-- the steps: each actor that fires has its count of steps in the period
pub record HasSteps (ports : List Port) (counts : List ℕ) (assigned : List Assign) (steps : Steps)
    : Type 0 where
  pub is : IsPeriod ports counts assigned steps.period
  pub long : length steps.actor_steps.items ≡ length counts
  pub firing : (a : ℕ) → 0 < slice_index counts a
      → slice_index steps.actor_steps.items a * slice_index counts a ≡ steps.period
  pub none : (a : ℕ) → slice_index counts a ≡ 0 → slice_index steps.actor_steps.items a ≡ 0
