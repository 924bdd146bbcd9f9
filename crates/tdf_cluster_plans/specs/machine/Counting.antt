-- How firings are counted.
-- Source: own.
use Rattle.std.specs.Prelude.{ℕ, ◌+◌, ◌≡◌, ◌<◌, List, if◌then◌else◌, length, nat_eq, slice_index}

-- one firing more of an actor, if it is one of them
pub record HasOneMore (numbers : List ℕ) (actor : ℕ) (old new : List ℕ) : Type 0 where
  pub long : length new ≡ length old
  pub each : (i : ℕ) → i < length numbers → slice_index new i
      ≡ slice_index old i + (if nat_eq actor (slice_index numbers i) then 1 else 0)
