-- Update and delta notification, one number after the other.
-- Source: own.
use Rattle.std.specs.Prelude.{◌≡◌, ◌<◌, ◌⊎◌, ℕ, Bool, true, List, Option, Some, None, length, slice_get, slice_index_or, unwrap_or}
use Rattle.tdf_events_queue.specs.Lists.{list_at}
use Rattle.tdf_events_queue.specs.Sets.{is_on}
use Rattle.tdf_events.specs.Delta.{differs}
use Rattle.tdf_events.specs.Side.{value_at}
use Rattle.tdf_fixed.specs.declared.raw.Raw.{Raw}

-- whether a signal changes
abbrev pub does_change : List Raw → List (Option Raw) → ℕ → Bool
does_change values waiting s = differs (value_at values s) (slice_index_or waiting s None)

-- a process that is sensitive to a signal that changes
pub record IsReachedBy (lists : List (List ℕ)) (changes : ℕ → Bool) (signals : List ℕ) (p : ℕ)
    : Type 0 where
  pub place : ℕ
  pub number : ℕ
  pub at : slice_get signals place ≡ Some number
  pub change : changes number ≡ true
  pub index : ℕ
  pub member : slice_get (list_at lists number) index ≡ Some p

-- the processes that are sensitive to those of the first n signals that change are triggered, and
-- no others but these
pub record AreReached (lists : List (List ℕ)) (changes : ℕ → Bool) (signals : List ℕ) (n : ℕ)
    (old new : List Bool) : Type 0 where
  pub same : length new ≡ length old
  pub kept : (p : ℕ) → is_on old p ≡ true → is_on new p ≡ true
  pub set : (i s j p : ℕ) → i < n → slice_get signals i ≡ Some s → changes s ≡ true
      → slice_get (list_at lists s) j ≡ Some p → is_on new p ≡ true
  pub only : (p : ℕ) → is_on new p ≡ true
      → (is_on old p ≡ true) ⊎ IsReachedBy lists changes signals p

-- a signal took the value that waited for it, and nothing waits for it any more
pub record IsGiven (from waiting : List (Option Raw)) (old new : List Raw) (s : ℕ) : Type 0 where
  pub value : value_at new s ≡ unwrap_or (slice_index_or from s None) (value_at old s)
  pub gone : slice_index_or waiting s None ≡ None

-- the same value waits for a signal, which is as it was
pub record IsUntouched (from waiting : List (Option Raw)) (old new : List Raw) (s : ℕ) : Type 0
  where
    pub value : value_at new s ≡ value_at old s
    pub same : slice_index_or waiting s None ≡ slice_index_or from s None

-- the first n signals took the values that waited for them; no other changed but by the same
pub record AreGiven (signals : List ℕ) (n : ℕ) (from waiting : List (Option Raw))
    (old new : List Raw) : Type 0 where
  pub values : length new ≡ length old
  pub waits : length waiting ≡ length from
  pub given : (i s : ℕ) → i < n → slice_get signals i ≡ Some s
      → IsGiven from waiting old new s
  pub others : (s : ℕ) → IsUntouched from waiting old new s ⊎ IsGiven from waiting old new s

-- a process that is sensitive to a number that passes
pub record IsSensitive (lists : List (List ℕ)) (test : ℕ → Bool) (p : ℕ) : Type 0 where
  pub number : ℕ
  pub passes : test number ≡ true
  pub index : ℕ
  pub member : slice_get (list_at lists number) index ≡ Some p

-- the processes that are sensitive to a number that passes are triggered, and no others but these
pub record AreAllReached (lists : List (List ℕ)) (test : ℕ → Bool) (old new : List Bool)
    : Type 0 where
  pub same : length new ≡ length old
  pub kept : (p : ℕ) → is_on old p ≡ true → is_on new p ≡ true
  pub set : (s j p : ℕ) → test s ≡ true → slice_get (list_at lists s) j ≡ Some p
      → is_on new p ≡ true
  pub only : (p : ℕ) → is_on new p ≡ true → (is_on old p ≡ true) ⊎ IsSensitive lists test p
