-- How often each actor of a cluster fires in one period: the least positive whole numbers that
-- meet the balance equations.
-- Source: E. A. Lee, D. G. Messerschmitt, Synchronous data flow, Proceedings of the IEEE, 1987.
use Rattle.std.specs.Prelude.{ℕ, ◌≡◌, ◌≢◌, ◌<◌, ◌*◌, List, length, slice_index, Contains}
use Rattle.std.specs.Int.{◌∣◌}
use Rattle.tdf_graph.specs.Clusters.{Joined}
use Rattle.tdf_graph.specs.declared.actors.Edge.{Edge}

-- an edge's samples written in one period are those read
abbrev pub IsBalanced : (counts : ℕ → ℕ) → Edge → Type 0
IsBalanced counts e = counts e.writer * e.write_rate ≡ counts e.reader * e.read_rate

-- positive numbers that meet the balance equations of these edges
pub record Solves (edges : List Edge) (counts : ℕ → ℕ) : Type 0 where
  pub positive : (a : ℕ) → 0 < counts a
  pub balanced : (e : Edge) → Contains edges e → IsBalanced counts e

-- a solution that has on the actors joined with one actor no common divisor but 1
pub record IsLeast (edges : List Edge) (actor : ℕ) (counts : ℕ → ℕ) : Type 0 where
  pub solves : Solves edges counts
  pub least : (d : ℕ) → ((a : ℕ) → Joined edges actor a → d ∣ counts a) → d ≡ 1

-- the counts of a cluster's actors, 0 for all others
pub record AreCounts (edges : List Edge) (clusters : List ℕ) (cluster : ℕ) (counts : List ℕ)
    : Type 0 where
  pub long : length counts ≡ length clusters
  pub outside : (a : ℕ) → slice_index clusters a ≢ cluster → slice_index counts a ≡ 0
  pub positive : (a : ℕ) → a < length clusters → slice_index clusters a ≡ cluster
      → 0 < slice_index counts a
  pub balanced : (e : Edge) → Contains edges e → IsBalanced (slice_index counts) e
  pub least : (d : ℕ) → ((a : ℕ) → a < length clusters → slice_index clusters a ≡ cluster
      → d ∣ slice_index counts a) → d ≡ 1
