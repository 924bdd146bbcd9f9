-- What holds of the texts of snapshots.
-- Source: own.
use Rattle.std.specs.Prelude.{◌≡◌, ℕ, ◌<◌, ◌^◌, List, length, drop}
use Rattle.std.specs.List.{AllByRecursion}
use Rattle.tdf_save.specs.Members.{AreNamesApart, ClusterMembersOf, IsSnapshotFor, MembersOf}
use Rattle.tdf_save.specs.Start.{IsInLine, IsTextStart}
use Rattle.tdf_save.specs.Text.{saved_text}
use Rattle.tdf_saved.specs.State.{SnapshotOf}

-- a text is that of one snapshot and one model, where the snapshot has the members of the model,
-- with numbers in range
abbrev pub SavedIsOne : Type 0
SavedIsOne = (m : MembersOf) (x y : List ℕ) (s t : SnapshotOf) → AreNamesApart m.events
    → IsSnapshotFor m s → IsSnapshotFor m t → length x < 2 ^ 64 → length y < 2 ^ 64
    → saved_text m x s ≡ saved_text m y t → (s ≡ t) × (x ≡ y)

pub record IsClusterInLine (c : ClusterMembersOf) : Type 0 where
  pub small : c.number < 2 ^ 64
  pub modules : AllByRecursion (λ m. IsInLine m.path) c.modules
  pub edges : AllByRecursion IsInLine c.edges

-- no path, name or label has an LF
pub record AreInLines (m : MembersOf) : Type 0 where
  pub clusters : AllByRecursion IsClusterInLine m.clusters
  pub values : AllByRecursion IsInLine m.values
  pub blocks : AllByRecursion (λ b. IsInLine b.path) m.blocks
  pub events : AllByRecursion IsInLine m.events
  pub columns : AllByRecursion IsInLine m.columns

-- a text has one place after the first line that begins with `text `, or none
abbrev pub StartIsOne : Type 0
StartIsOne = (text : List ℕ) (place other : ℕ) → IsTextStart text place
    → IsTextStart text other → place ≡ other

-- the text of the model is what comes after the first line that begins with `text `
abbrev pub FindsText : Type 0
FindsText = (m : MembersOf) (model : List ℕ) (s : SnapshotOf) → AreInLines m
    → IsSnapshotFor m s → length model < 2 ^ 64
    → (place : ℕ) × IsTextStart (saved_text m model s) place
    × (drop place (saved_text m model s) ≡ model)
