-- A set of numbers below a bound (own): a flag for each number, and the members in a list.
-- Source: own.
use Rattle.std.specs.Prelude.{ℕ, ◌<◌, ◌≡◌, Bool, true, false, Option, Some, None, List, length, slice_get, slice_index_or}
use Rattle.std.specs.List.{count_by}

pub record SetOf : Type 0 where
  -- number by number: whether it is in
  pub flags : List Bool
  -- the numbers that are in, in the order in which they are gone through
  pub members : List ℕ

abbrev pub is_on : List Bool → ℕ → Bool
is_on flags n = slice_index_or flags n false

-- how many numbers are in
abbrev pub count_on : List Bool → ℕ
count_on flags = count_by (λ on. on) flags

-- the list names each number that is in, once
pub record AreListed (flags : List Bool) (list : List ℕ) : Type 0 where
  pub on : (j n : ℕ) → slice_get list j ≡ Some n → is_on flags n ≡ true
  pub all : (n : ℕ) → is_on flags n ≡ true → (j : ℕ) × (slice_get list j ≡ Some n)
  pub once : (i j n : ℕ) → slice_get list i ≡ Some n → slice_get list j ≡ Some n → i ≡ j
  pub count : length list ≡ count_on flags

-- the same, in rising order
pub record AreRisingFlags (flags : List Bool) (list : List ℕ) : Type 0 where
  pub on : (j n : ℕ) → slice_get list j ≡ Some n → is_on flags n ≡ true
  pub all : (n : ℕ) → is_on flags n ≡ true → (j : ℕ) × (slice_get list j ≡ Some n)
  pub rising : (i j n m : ℕ) → i < j → slice_get list i ≡ Some n → slice_get list j ≡ Some m
      → n < m

-- nothing stands at the first n listed places, and nothing new at the others
pub record AreForgotten {A : Type 0} (list : List ℕ) (n : ℕ) (old new : List (Option A))
    : Type 0 where
  pub same : length new ≡ length old
  pub gone : (i s : ℕ) → i < n → slice_get list i ≡ Some s → slice_index_or new s None ≡ None
  pub kept : (s : ℕ) → slice_index_or old s None ≡ None → slice_index_or new s None ≡ None
