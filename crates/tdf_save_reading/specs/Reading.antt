-- Which snapshots have given bytes as their text.
-- Source: own.
use Rattle.std.specs.Prelude.{◌≡◌, ℕ, ◌<◌, ◌^◌, List, length}
use Rattle.tdf_save.specs.Members.{MembersOf}
use Rattle.tdf_save.specs.Text.{saved_text}
use Rattle.tdf_saved.specs.State.{SnapshotOf}

-- the bytes are the text of a snapshot of a model with these members, with some text of the model
pub record IsSavedText (m : MembersOf) (bytes : List ℕ) (s : SnapshotOf) : Type 0 where
  pub model : List ℕ
  pub small : length model < 2 ^ 64
  pub is : bytes ≡ saved_text m model s
