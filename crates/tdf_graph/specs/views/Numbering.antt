-- How the numbers of clusters are given, actor by actor.
use Rattle.std.specs.Prelude.{ℕ, ◌≡◌, ◌≢◌, ◌<◌, ◌≤◌, ◌+◌, List, length, take, slice_index}
use Rattle.tdf_graph.specs.Clusters.{greatest}

-- the first n actors have their numbers, the greatest is `last`; `table` has for each label the
-- number that it was given, or 0
pub record NumberedUpTo (n last : ℕ) (labels table numbers : List ℕ) : Type 0 where
  pub long : length numbers ≡ n
  pub same : length table ≡ length labels
  pub few : last ≤ n
  pub most : greatest numbers ≡ last
  pub given : (a : ℕ) → a < n → slice_index table (slice_index labels a) ≡ slice_index numbers a
  pub some : (a : ℕ) → a < n → 0 < slice_index numbers a
  pub source : (l : ℕ) → 0 < slice_index table l → (a : ℕ) × (a < n) × (slice_index labels a ≡ l)
  pub top : (l : ℕ) → slice_index table l ≤ last
  pub apart : (l m : ℕ) → 0 < slice_index table l
      → slice_index table l ≡ slice_index table m → l ≡ m
  pub first : (a : ℕ) → a < n → ((b : ℕ) → b < a → slice_index labels b ≢ slice_index labels a)
      → slice_index numbers a ≡ greatest (take a numbers) + 1

-- all actors have their numbers, one for each label
pub record IsNumbered (labels numbers : List ℕ) : Type 0 where
  pub long : length numbers ≡ length labels
  pub alike : (a b : ℕ) → a < length labels → b < length labels
      → slice_index labels a ≡ slice_index labels b → slice_index numbers a ≡ slice_index numbers b
  pub apart : (a b : ℕ) → a < length labels → b < length labels
      → slice_index numbers a ≡ slice_index numbers b → slice_index labels a ≡ slice_index labels b
  pub first : (a : ℕ) → a < length labels
      → ((b : ℕ) → b < a → slice_index labels b ≢ slice_index labels a)
      → slice_index numbers a ≡ greatest (take a numbers) + 1
