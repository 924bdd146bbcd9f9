-- The least counts of each part, one edge after the other.
use Rattle.std.specs.Prelude.{ℕ, ◌≡◌, ◌≢◌, ◌<◌, ◌≤◌, List, All, length, slice_index, slice_index_or}
use Rattle.tdf_balance.specs.Balance.{edges_to, IsBad}
use Rattle.tdf_base.specs.Limits.{most_firings}
use Rattle.tdf_graph.specs.Counts.{IsLeast}
use Rattle.tdf_graph.specs.Parts.{AreLabels}
use Rattle.tdf_graph.specs.Ranges.{IsEdge}
use Rattle.tdf_graph.specs.declared.actors.Edge.{Edge}

-- the count of an actor, 1 beyond the list
abbrev pub count_at : List ℕ → ℕ → ℕ
count_at counts a = slice_index_or counts a 1

-- for each actor the counts are the least of its part
pub record AreLeast (count : ℕ) (edges : List Edge) (labels counts : List ℕ) : Type 0 where
  pub fit : All (IsEdge count) edges
  pub parts : AreLabels count edges labels
  pub long : length counts ≡ count
  pub few : All (λ q. q ≤ most_firings) counts
  pub least : (a : ℕ) → a < count → IsLeast edges a (count_at counts)

-- the counts are the least ones of some edges
abbrev pub IsSolution : (count : ℕ) (labels counts : List ℕ) → Type 0
IsSolution count labels counts = (edges : List Edge) × AreLeast count edges labels counts

-- no edge before edge k is bad
abbrev pub AreFine : List Edge → (clusters : List ℕ) (cluster k : ℕ) → Type 0
AreFine edges clusters cluster k = (j : ℕ) → j < k → IsBad (edges_to clusters cluster edges j) → ⊥

-- of the first n counts those of a cluster's actors are kept, all others are 0
pub record KeptUpTo (n : ℕ) (clusters : List ℕ) (cluster : ℕ) (counts kept : List ℕ) : Type 0 where
  pub long : length kept ≡ length counts
  pub few : All (λ q. q ≤ most_firings) kept
  pub inside : (a : ℕ) → slice_index clusters a ≡ cluster
      → slice_index kept a ≡ slice_index counts a
  pub outside : (a : ℕ) → a < n → slice_index clusters a ≢ cluster → slice_index kept a ≡ 0
  pub rest : (a : ℕ) → n ≤ a → slice_index kept a ≡ slice_index counts a

abbrev pub IsKept : (clusters : List ℕ) (cluster : ℕ) (counts kept : List ℕ) → Type 0
IsKept clusters cluster counts kept = KeptUpTo (length counts) clusters cluster counts kept
