-- What is known of the next firing of each actor, while its edges are asked one after the other.
use Rattle.std.specs.Prelude.{◌≡◌, ◌<◌, ◌≤◌, ℕ, List, length, slice_index_or}
use Rattle.tdf_graph.specs.declared.actors.Edge.{Edge}
use Rattle.tdf_schedule.specs.declared.join.Asked.{Asked}
use Rattle.tdf_schedule.specs.declared.join.Asked.TheVariants as asked
use Rattle.tdf_schedule.specs.declared.join.Part.{Part}
use Rattle.tdf_schedule.specs.declared.key.Key.{Key}
use Rattle.tdf_schedule.specs.views.Table.{IsJoined, IsStuck, key_of, row_at}
use Rattle.tdf_schedule.specs.views.Work.{links_at}

-- where some edges were asked, the key is what they need together
abbrev pub IsPart : List Edge → (pace : ℕ → ℕ) → List (List Key) → (m : ℕ) → (inputs : List ℕ)
    → Part → Type 0
IsPart edges pace table m inputs part = 0 < part.asked → (part.asked ≤ length inputs)
    × IsJoined edges pace table m (length (row_at table m)) inputs part.asked part.key

-- what the next firing of an actor needs, or why it has no key yet
abbrev pub IsAsked : List Edge → (pace : ℕ → ℕ) → List (List Key) → (m : ℕ) → (inputs : List ℕ)
    → Asked → Type 0
IsAsked edges pace table m inputs (asked.Whole key) =
    IsJoined edges pace table m (length (row_at table m)) inputs (length inputs) key
IsAsked edges pace table m inputs (asked.Part part) =
    IsStuck edges table m × IsPart edges pace table m inputs part

-- no edge was asked
abbrev pub no_part : Part
no_part = record { asked = 0; key = key_of 0 0 }

abbrev pub part_at : List Part → ℕ → Part
part_at parts m = slice_index_or parts m no_part

-- what is known of each actor
pub record AreParts (edges : List Edge) (pace : ℕ → ℕ) (counts : List ℕ) (table : List (List Key))
    (lists : List (List ℕ)) (parts : List Part) : Type 0 where
  pub long : length parts ≡ length counts
  pub each : (m : ℕ) → m < length counts
      → IsPart edges pace table m (links_at lists m) (part_at parts m)
