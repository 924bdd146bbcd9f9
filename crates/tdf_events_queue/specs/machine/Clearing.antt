-- Numbers that are taken out of a set one after the other.
-- Source: own.
use Rattle.std.specs.Prelude.{ℕ, ◌<◌, ◌≡◌, Bool, false, Some, List, length, slice_get}
use Rattle.tdf_events_queue.specs.Sets.{is_on}

-- the first n of the list are out; no number has come in
pub record AreOff (list : List ℕ) (n : ℕ) (old new : List Bool) : Type 0 where
  pub same : length new ≡ length old
  pub off : (j k : ℕ) → j < n → slice_get list j ≡ Some k → is_on new k ≡ false
  pub kept : (k : ℕ) → is_on old k ≡ false → is_on new k ≡ false
