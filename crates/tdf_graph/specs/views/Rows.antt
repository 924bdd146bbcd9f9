-- How lists of parts are made and changed, step by step.
use Rattle.std.specs.Prelude.{ℕ, ◌≡◌, ◌≢◌, ◌<◌, List, [], ◌∷◌, Some, length, slice_get, slice_index}
use Rattle.smallvec.specs.SmallVec.{SmallVec}

-- row by row, the number alone
pub record AreRows (count : ℕ) (members : List (SmallVec ℕ)) : Type 0 where
  pub long : length members ≡ count
  pub each : (l : ℕ) (row : SmallVec ℕ) → slice_get members l ≡ Some row → row.items ≡ l ∷ []

abbrev pub AreWithin : ℕ → List ℕ → Type 0
AreWithin count list = (i : ℕ) → i < length list → slice_index list i < count

-- the first `done` actors of the list have the label `kept`, those not among them what they had
pub record RelabelledUpTo (done kept : ℕ) (list old new : List ℕ) : Type 0 where
  pub long : length new ≡ length old
  pub there : (i : ℕ) → i < done → slice_index new (slice_index list i) ≡ kept
  pub rest : (a : ℕ) → ((i : ℕ) → i < done → slice_index list i ≢ a)
      → slice_index new a ≡ slice_index old a

abbrev pub IsRelabelled : ℕ → List ℕ → List ℕ → List ℕ → Type 0
IsRelabelled kept list old new = RelabelledUpTo (length list) kept list old new
