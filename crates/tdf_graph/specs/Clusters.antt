-- Actors that a chain of edges joins, walked either way, and their numbers by the least actor.
-- Source: own.
use Rattle.std.specs.Prelude.{ℕ, ◌≡◌, ◌<◌, ◌+◌, List, [], ◌∷◌, length, max, take, slice_index, Contains}
use Rattle.tdf_graph.specs.declared.actors.Edge.{Edge}

-- a chain of edges leads from one actor to the other; each edge may be walked either way
pub data Joined (edges : List Edge) : ℕ → ℕ → Type 0 where
  stays : (a : ℕ) → Joined edges a a
  goes : {b : ℕ} (e : Edge) → Contains edges e → Joined edges e.reader b → Joined edges e.writer b
  comes : {b : ℕ} (e : Edge) → Contains edges e → Joined edges e.writer b → Joined edges e.reader b

abbrev pub greatest : List ℕ → ℕ
greatest [] = 0
greatest (n ∷ ns) = max n (greatest ns)

-- the cluster of each of `count` actors: two are in one exactly where a chain joins them; the
-- first actor of a cluster has the number after those of the actors before it, from 1 on
pub record AreClusters (count : ℕ) (edges : List Edge) (numbers : List ℕ) : Type 0 where
  pub long : length numbers ≡ count
  pub together : (a b : ℕ) → a < count → b < count
      → slice_index numbers a ≡ slice_index numbers b → Joined edges a b
  pub joined : (a b : ℕ) → a < count → b < count
      → Joined edges a b → slice_index numbers a ≡ slice_index numbers b
  pub first : (a : ℕ) → a < count → ((b : ℕ) → b < a → Joined edges b a → ⊥)
      → slice_index numbers a ≡ greatest (take a numbers) + 1
