-- What a run tells of the starts of its periods.
-- Source: own.
use Rattle.std.specs.Prelude.{◌≡◌, ◌⊎◌, ◌≤◌, ℕ, List, Some, slice_get}

-- no start is below it, and it is one of them, or a limit that is not above it
pub record IsLeastStart (since : List ℕ) (limit least : ℕ) : Type 0 where
  pub each : (n s : ℕ) → slice_get since n ≡ Some s → least ≤ s
  pub within : least ≤ limit
  pub one : (least ≡ limit) ⊎ ((n : ℕ) × (slice_get since n ≡ Some least))
