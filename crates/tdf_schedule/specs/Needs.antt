-- What a firing needs, and its place in the plan: its level and its offset.
-- Source: own.
use Rattle.std.specs.Prelude.{ℕ, zero, suc, ◌+◌, ◌-◌, ◌*◌, ◌/◌, ◌<◌, ◌≤◌, ◌≡◌, ◌⊎◌, List, Contains}
use Rattle.tdf_graph.specs.declared.actors.Edge.{Edge}
use Rattle.tdf_schedule.specs.declared.key.Key.{Key}

-- a sample that firing a of actor m reads is written by firing b of actor n
pub record Takes (edges : List Edge) (m a n b : ℕ) : Type 0 where
  pub edge : Edge
  pub there : Contains edges edge
  pub reads : edge.reader ≡ m
  pub writes : edge.writer ≡ n
  pub place : ℕ
  pub low : a * edge.read_rate ≤ place
  pub high : place < a * edge.read_rate + edge.read_rate
  pub late : edge.initial ≤ place
  pub made : b ≡ (place - edge.initial) / edge.write_rate

-- it needs that one, and its actor's firing before it
abbrev pub Needs : List Edge → (m a n b : ℕ) → Type 0
Needs edges m a n b = ((n ≡ m) × (b + 1 ≡ a)) ⊎ Takes edges m a n b

-- it can be done in f steps and by the time o: it is due by then, at a times the pace of its actor,
-- and what it needs can be done in a step less by the same time; nothing can be done in no step
unfoldable pub Within : List Edge → (pace : ℕ → ℕ) → (f o m a : ℕ) → Type 0
Within edges pace zero o m a = ⊥
Within edges pace (suc f) o m a =
    (a * pace m ≤ o) × ((n b : ℕ) → Needs edges m a n b → Within edges pace f o n b)

-- its needs, their needs and so on end without a cycle
abbrev pub IsGrounded : List Edge → (pace : ℕ → ℕ) → (m a : ℕ) → Type 0
IsGrounded edges pace m a = (f : ℕ) × (o : ℕ) × Within edges pace f o m a

-- its level and its offset: the least steps and the least time in which it can be done
pub record HasKey (edges : List Edge) (pace : ℕ → ℕ) (m a : ℕ) (key : Key) : Type 0 where
  pub within : Within edges pace key.level key.offset m a
  pub least : (f o : ℕ) → Within edges pace f o m a → (key.level ≤ f) × (key.offset ≤ o)
