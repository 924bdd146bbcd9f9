-- What holds along a plan.
-- Source: own.
use Rattle.std.specs.Prelude.{ℕ, ◌+◌, ◌-◌, ◌*◌, ◌<◌, ◌≤◌, ◌≡◌, Some, List, length, All, Contains, slice_get, slice_index}
use Rattle.tdf_graph.specs.Counts.{IsBalanced}
use Rattle.tdf_graph.specs.Ranges.{IsEdge}
use Rattle.tdf_graph.specs.declared.actors.Edge.{Edge}
use Rattle.tdf_schedule.specs.Needs.{Needs}
use Rattle.tdf_schedule.specs.Plan.{IsPlan, IsBound, done}
use Rattle.tdf_schedule.specs.declared.entry.Entry.{Entry}

-- firing b of actor n stands before place i
pub record StandsBefore (entries : List Entry) (i n b : ℕ) : Type 0 where
  pub place : ℕ
  pub before : place < i
  pub entry : Entry
  pub there : slice_get entries place ≡ Some entry
  pub actor : entry.actor ≡ n
  pub index : entry.index ≡ b

-- along a plan an actor's firings come by index, what an entry needs stands before it, its samples
-- are there, no edge holds less than nothing, and at the end each edge holds what it held at first
pub record IsPresent (edges : List Edge) (counts : List ℕ) (entries : List Entry) : Type 0 where
  pub by_index : (i : ℕ) (x : Entry) → slice_get entries i ≡ Some x
      → x.index ≡ done entries i x.actor
  pub needs : (i n b : ℕ) (x : Entry) → slice_get entries i ≡ Some x
      → Needs edges x.actor x.index n b → StandsBefore entries i n b
  pub present : (i : ℕ) (x : Entry) (e : Edge) → slice_get entries i ≡ Some x
      → Contains edges e → e.reader ≡ x.actor
      → done entries i e.reader * e.read_rate + e.read_rate
      ≤ e.initial + done entries i e.writer * e.write_rate
  pub held : (i : ℕ) (e : Edge) → i ≤ length entries → Contains edges e
      → done entries i e.reader * e.read_rate ≤ e.initial + done entries i e.writer * e.write_rate
  pub all_done : (m : ℕ) → done entries (length entries) m ≡ slice_index counts m
  pub back : (e : Edge) → Contains edges e
      → e.initial + done entries (length entries) e.writer * e.write_rate
      - done entries (length entries) e.reader * e.read_rate ≡ e.initial

-- the bound is at least what is read at once and what is there at first, and at most a period more
pub record IsNarrow (e : Edge) (counts : List ℕ) (bound : ℕ) : Type 0 where
  pub reads : e.read_rate ≤ bound
  pub first : e.initial ≤ bound
  pub most : bound ≤ e.initial + slice_index counts e.writer * e.write_rate

abbrev pub PlansArePresent : Type 0
PlansArePresent = (edges : List Edge) (pace : ℕ → ℕ) (counts : List ℕ) (entries : List Entry)
    → All (IsEdge (length counts)) edges
    → ((e : Edge) → Contains edges e → IsBalanced (slice_index counts) e)
    → IsPlan edges pace counts entries → IsPresent edges counts entries

abbrev pub BoundsAreNarrow : Type 0
BoundsAreNarrow = (edges : List Edge) (pace : ℕ → ℕ) (counts : List ℕ) (entries : List Entry)
    → (e : Edge) (bound : ℕ) → All (IsEdge (length counts)) edges
    → ((e : Edge) → Contains edges e → IsBalanced (slice_index counts) e)
    → IsPlan edges pace counts entries → Contains edges e → 0 < slice_index counts e.reader
    → IsBound entries e bound → IsNarrow e counts bound

-- a cluster has one plan, and an edge one bound
abbrev pub PlansAreUnique : Type 0
PlansAreUnique = (edges : List Edge) (pace : ℕ → ℕ) (counts : List ℕ) (one other : List Entry)
    → IsPlan edges pace counts one → IsPlan edges pace counts other → one ≡ other

abbrev pub BoundsAreUnique : Type 0
BoundsAreUnique = (entries : List Entry) (e : Edge) (one other : ℕ)
    → IsBound entries e one → IsBound entries e other → one ≡ other
