-- Counts while some of them are multiplied, actor by actor.
use Rattle.std.specs.Prelude.{ℕ, ◌≡◌, ◌≢◌, ◌<◌, ◌≤◌, ◌*◌, List, All, length, slice_index}
use Rattle.tdf_base.specs.Limits.{most_firings}

-- the counts of the first `done` actors of the list are multiplied, all others are what they were
pub record ScaledUpTo (done factor : ℕ) (list old new : List ℕ) : Type 0 where
  pub long : length new ≡ length old
  pub few : All (λ q. q ≤ most_firings) new
  pub there : (i : ℕ) → i < done
      → slice_index new (slice_index list i) ≡ slice_index old (slice_index list i) * factor
  pub rest : (a : ℕ) → ((i : ℕ) → i < done → slice_index list i ≢ a)
      → slice_index new a ≡ slice_index old a

-- some actor of the list has a count that would pass the limit
abbrev pub HasTooGreat : ℕ → List ℕ → List ℕ → Type 0
HasTooGreat factor list old = (i : ℕ) × (i < length list)
    × (most_firings < slice_index old (slice_index list i) * factor)

-- the actors of the list have counts, and each is there once
pub record AreOnce (count : ℕ) (list : List ℕ) : Type 0 where
  pub within : (i : ℕ) → i < length list → slice_index list i < count
  pub once : (i j : ℕ) → i < j → j < length list → slice_index list i ≢ slice_index list j

-- the counts of the actors with a label are multiplied, all others are what they were
pub record IsScaled (labels : List ℕ) (label factor : ℕ) (old new : List ℕ) : Type 0 where
  pub long : length new ≡ length old
  pub few : All (λ q. q ≤ most_firings) new
  pub inside : (a : ℕ) → a < length labels → slice_index labels a ≡ label
      → slice_index new a ≡ slice_index old a * factor
  pub outside : (a : ℕ) → (slice_index labels a ≡ label → ⊥) → slice_index new a ≡ slice_index old a

-- some actor with the label has a count that would pass the limit
pub record HasGreat (labels : List ℕ) (label factor : ℕ) (old : List ℕ) : Type 0 where
  pub actor : ℕ
  pub within : actor < length labels
  pub there : slice_index labels actor ≡ label
  pub above : most_firings < slice_index old actor * factor
