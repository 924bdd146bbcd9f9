-- The first position of the signals of a tracking that has no sample.
-- Source: own.
use Rattle.std.specs.Prelude.{◌≡◌, ◌⊎◌, ◌<◌, ◌≤◌, ℕ, List, Some, slice_get}
use Rattle.tdf_trace.specs.Tracked.{TrackedOf}

-- one of the first k signals has its next position without a sample at a time
pub record IsMissingAt (list : List TrackedOf) (k time : ℕ) : Type 0 where
  pub place : ℕ
  pub it : TrackedOf
  pub below : place < k
  pub there : slice_get list place ≡ Some it
  pub left : 0 < it.stamps.left
  pub at : it.stamps.time ≡ time

-- the least such time below a limit, else the limit
pub record IsFirstMissing (list : List TrackedOf) (k limit time : ℕ) : Type 0 where
  pub within : time ≤ limit
  pub none : (place : ℕ) (t : TrackedOf) → place < k → slice_get list place ≡ Some t
      → 0 < t.stamps.left → time ≤ t.stamps.time
  pub one : (time ≡ limit) ⊎ IsMissingAt list k time
