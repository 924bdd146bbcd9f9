-- What a list, or the lists of several numbers, put into a set.
-- Source: own.
use Rattle.std.specs.Prelude.{ℕ, ◌<◌, ◌≡◌, ◌⊎◌, Bool, true, Some, List, length, slice_get}
use Rattle.tdf_events_queue.specs.Lists.{list_at}
use Rattle.tdf_events_queue.specs.Sets.{is_on}

-- the first n of a list are in, and beside them no other number has come in
pub record AreTriggered (list : List ℕ) (n : ℕ) (old new : List Bool) : Type 0 where
  pub same : length new ≡ length old
  pub kept : (p : ℕ) → is_on old p ≡ true → is_on new p ≡ true
  pub set : (j p : ℕ) → j < n → slice_get list j ≡ Some p → is_on new p ≡ true
  pub only : (p : ℕ) → is_on new p ≡ true
      → (is_on old p ≡ true) ⊎ ((j : ℕ) × (slice_get list j ≡ Some p))

-- a member of the list of one of these numbers
pub record IsReached (lists : List (List ℕ)) (numbers : List ℕ) (p : ℕ) : Type 0 where
  pub place : ℕ
  pub number : ℕ
  pub at : slice_get numbers place ≡ Some number
  pub index : ℕ
  pub member : slice_get (list_at lists number) index ≡ Some p

-- the members of the lists of the first n numbers are in, and beside those of all of them no other
-- number has come in
pub record AreAllTriggered (lists : List (List ℕ)) (numbers : List ℕ) (n : ℕ)
    (old new : List Bool) : Type 0 where
  pub same : length new ≡ length old
  pub kept : (p : ℕ) → is_on old p ≡ true → is_on new p ≡ true
  pub set : (i s j p : ℕ) → i < n → slice_get numbers i ≡ Some s
      → slice_get (list_at lists s) j ≡ Some p → is_on new p ≡ true
  pub only : (p : ℕ) → is_on new p ≡ true → (is_on old p ≡ true) ⊎ IsReached lists numbers p
