-- A list whose values are set one after another, by the places of some numbers.
-- Source: own.
use Rattle.std.specs.Prelude.{ℕ, ◌≡◌, ◌<◌, List, length, slice_index}

-- the values before place i are those that are wanted at the numbers
pub record AreSet (wanted numbers : List ℕ) (i : ℕ) (list : List ℕ) : Type 0 where
  pub long : length list ≡ length numbers
  pub each : (k : ℕ) → k < i → slice_index list k ≡ slice_index wanted (slice_index numbers k)
