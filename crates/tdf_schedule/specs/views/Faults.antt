-- The faults of a cluster, looked for in its table of keys.
use Rattle.std.specs.Prelude.{ℕ, ◌*◌, ◌<◌, ◌≡◌, nat_eq, if◌then◌else◌, Option, Some, None, List, length, slice_get, slice_index}
use Rattle.std.specs.List.{sum_by}
use Rattle.tdf_graph.specs.declared.actors.Actor.{Actor}
use Rattle.tdf_graph.specs.declared.actors.Actor.TheVariants.{Sink}
use Rattle.tdf_graph.specs.declared.actors.Edge.{Edge}
use Rattle.tdf_graph.specs.declared.actors.Port.{Port}
use Rattle.tdf_schedule.specs.Plan.{pace_of}
use Rattle.tdf_schedule.specs.declared.key.Key.{Key}
use Rattle.tdf_schedule.specs.views.Table.{row_at}

abbrev pub initial_sum : (counts : List ℕ) → List Edge → ℕ
initial_sum counts edges =
    sum_by (λ e. if nat_eq (slice_index counts e.writer) 0 then 0 else e.initial) edges

abbrev pub rate_sum : (counts : List ℕ) → List Port → ℕ
rate_sum counts ports = sum_by (λ p. slice_index counts p.actor * p.rate) ports

-- all firings of an actor have their keys
abbrev pub IsFull : (counts : List ℕ) → List (List Key) → ℕ → Type 0
IsFull counts table m = length (row_at table m) ≡ slice_index counts m

pub record IsShortAt (counts : List ℕ) (table : List (List Key)) (m : ℕ) : Type 0 where
  pub within : m < length counts
  pub short : IsFull counts table m → ⊥
  pub first : (k : ℕ) → k < m → IsFull counts table k

abbrev pub IsFirstShort : (counts : List ℕ) → List (List Key) → Option ℕ → Type 0
IsFirstShort counts table None = (k : ℕ) → k < length counts → IsFull counts table k
IsFirstShort counts table (Some m) = IsShortAt counts table m

-- a firing comes after it is due
pub record IsLateAt (table : List (List Key)) (paces : List ℕ) (m a : ℕ) : Type 0 where
  pub key : Key
  pub there : slice_get (row_at table m) a ≡ Some key
  pub late : a * slice_index paces m < key.offset

pub record IsEarliest (table : List (List Key)) (paces : List ℕ) (m a : ℕ) : Type 0 where
  pub is : IsLateAt table paces m a
  pub first : (b : ℕ) → b < a → IsLateAt table paces m b → ⊥

abbrev pub IsFirstLateRow : List (List Key) → (paces : List ℕ) → ℕ → Option ℕ → Type 0
IsFirstLateRow table paces m None = (b : ℕ) → IsLateAt table paces m b → ⊥
IsFirstLateRow table paces m (Some a) = IsEarliest table paces m a

-- the paces of the first n actors
pub record ArePacesUpTo (n : ℕ) (actors : List Actor) (steps paces : List ℕ) : Type 0 where
  pub long : length paces ≡ n
  pub each : (m : ℕ) → m < n → slice_index paces m ≡ pace_of actors steps m

-- a firing of a sink comes after it is due
pub record IsLateSink (actors : List Actor) (table : List (List Key)) (paces : List ℕ) (m a : ℕ)
    : Type 0 where
  pub sink : slice_get actors m ≡ Some Sink
  pub late : IsLateAt table paces m a

abbrev pub IsFirstLateSink : List Actor → List (List Key) → (paces : List ℕ) → ℕ → Option ℕ → Type 0
IsFirstLateSink actors table paces m None = (b : ℕ) → IsLateSink actors table paces m b → ⊥
IsFirstLateSink actors table paces m (Some a) =
    IsLateSink actors table paces m a
    × ((b : ℕ) → b < a → IsLateSink actors table paces m b → ⊥)

pub record IsFirstOfAll (actors : List Actor) (table : List (List Key)) (paces : List ℕ) (m a : ℕ)
    : Type 0 where
  pub is : IsLateSink actors table paces m a
  pub earliest : (b : ℕ) → b < a → IsLateSink actors table paces m b → ⊥
  pub first : (k b : ℕ) → k < m → IsLateSink actors table paces k b → ⊥

abbrev pub IsFirstLate : List Actor → List (List Key) → (paces : List ℕ) → Option (ℕ × ℕ) → Type 0
IsFirstLate actors table paces None = (k b : ℕ) → IsLateSink actors table paces k b → ⊥
IsFirstLate actors table paces (Some p) = IsFirstOfAll actors table paces p.0 p.1
