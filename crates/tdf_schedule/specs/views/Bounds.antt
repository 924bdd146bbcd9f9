-- The bounds of edges, raised firing by firing.
use Rattle.std.specs.Prelude.{ℕ, ◌+◌, ◌-◌, ◌*◌, ◌<◌, ◌≤◌, ◌≡◌, ◌≢◌, ◌⊎◌, max, Some, List, length, slice_get, slice_index, All}
use Rattle.tdf_graph.specs.declared.actors.Edge.{Edge}
use Rattle.tdf_schedule.specs.Plan.{done}
use Rattle.tdf_schedule.specs.declared.entry.Entry.{Entry}

-- what an edge holds after so many firings of each actor
abbrev pub held_of : Edge → List ℕ → ℕ
held_of e counts =
    e.initial + slice_index counts e.writer * e.write_rate
    - slice_index counts e.reader * e.read_rate

-- the edges in the first n places of a list have their bounds raised, all others what they had
pub record AreRaisedUpTo (n : ℕ) (list : List ℕ) (edges : List Edge) (counts old new : List ℕ)
    : Type 0 where
  pub long : length new ≡ length old
  pub raised : (j : ℕ) (e : Edge) → j < n → slice_get edges (slice_index list j) ≡ Some e
      → slice_index new (slice_index list j)
      ≡ max (slice_index old (slice_index list j)) (held_of e counts)
  pub rest : (k : ℕ) → ((j : ℕ) → j < n → slice_index list j ≢ k)
      → slice_index new k ≡ slice_index old k

-- the edges of an actor have their bounds raised, all others what they had
pub record HasFired (actor : ℕ) (edges : List Edge) (counts old new : List ℕ) : Type 0 where
  pub long : length new ≡ length old
  pub touched : (k : ℕ) (e : Edge) → slice_get edges k ≡ Some e
      → (e.reader ≡ actor) ⊎ (e.writer ≡ actor)
      → slice_index new k ≡ max (slice_index old k) (held_of e counts)
  pub rest : (k : ℕ) (e : Edge) → slice_get edges k ≡ Some e
      → (e.reader ≡ actor → ⊥) → (e.writer ≡ actor → ⊥) → slice_index new k ≡ slice_index old k

-- the bounds after the first i entries
pub record AreBoundsUpTo (i : ℕ) (entries : List Entry) (edges : List Edge) (bounds : List ℕ)
    : Type 0 where
  pub long : length bounds ≡ length edges
  pub most : (k h : ℕ) (e : Edge) → slice_get edges k ≡ Some e → h ≤ i
      → e.initial + done entries h e.writer * e.write_rate
      ≤ slice_index bounds k + done entries h e.reader * e.read_rate
  pub reached : (k : ℕ) (e : Edge) → slice_get edges k ≡ Some e
      → (h : ℕ) × (h ≤ i)
      × (e.initial + done entries h e.writer * e.write_rate
      ≡ slice_index bounds k + done entries h e.reader * e.read_rate)

-- the state after the first i entries
pub record AreWalkedUpTo (i count : ℕ) (entries : List Entry) (edges : List Edge)
    (counts bounds : List ℕ) : Type 0 where
  pub long : length counts ≡ count
  pub few : All (λ n. n ≤ i) counts
  pub counted : (m : ℕ) → m < count → slice_index counts m ≡ done entries i m
  pub so_far : AreBoundsUpTo i entries edges bounds

-- what the first n edges hold at first
pub record AreInitialUpTo (n : ℕ) (edges : List Edge) (held : List ℕ) : Type 0 where
  pub long : length held ≡ n
  pub each : (k : ℕ) (e : Edge) → k < n → slice_get edges k ≡ Some e
      → slice_index held k ≡ e.initial
