-- The table of keys: for each actor those of its first firings.
use Rattle.std.specs.Prelude.{ℕ, suc, ◌+◌, ◌-◌, ◌*◌, ◌/◌, ◌<◌, ◌≤◌, ◌≡◌, ◌⊎◌, max, nat_lt, Option, Some, None, List, [], length, slice_get, slice_index_or, if◌then◌else◌, Contains}
use Rattle.std.specs.List.{sum_by}
use Rattle.tdf_graph.specs.declared.actors.Edge.{Edge}
use Rattle.tdf_schedule.specs.Needs.{Within, HasKey}
use Rattle.tdf_schedule.specs.declared.key.Key.{Key}

-- the firing of the writer that the last sample of firing a needs
abbrev pub last_of : Edge → ℕ → ℕ
last_of e a = a * e.read_rate + (e.read_rate - 1)

abbrev pub need_of : Edge → ℕ → Option ℕ
need_of e a =
    if nat_lt (last_of e a) e.initial then None
    else Some ((last_of e a - e.initial) / e.write_rate)

abbrev pub row_at : List (List Key) → ℕ → List Key
row_at table m = slice_index_or table m []

-- how many firings have their keys
abbrev pub total : List (List Key) → ℕ
total table = sum_by length table

-- no level is above the count of keys
abbrev pub AreLow : List (List Key) → Type 0
AreLow table = (m a : ℕ) (key : Key)
    → slice_get (row_at table m) a ≡ Some key → key.level ≤ total table

-- each key in the table is that of its firing
abbrev pub HasKeys : List Edge → (pace : ℕ → ℕ) → List (List Key) → Type 0
HasKeys edges pace table = (m a : ℕ) (key : Key)
    → slice_get (row_at table m) a ≡ Some key → HasKey edges pace m a key

-- the next firing of an actor needs one that has no key yet
pub record IsStuck (edges : List Edge) (table : List (List Key)) (m : ℕ) : Type 0 where
  pub edge : Edge
  pub there : Contains edges edge
  pub reads : edge.reader ≡ m
  pub firing : ℕ
  pub needs : need_of edge (length (row_at table m)) ≡ Some firing
  pub absent : length (row_at table edge.writer) ≤ firing

abbrev pub key_of : (level offset : ℕ) → Key
key_of level offset = record { level = level; offset = offset }

-- the later of two keys
unfoldable pub joined : Key → Key → Key
joined one other = record {
  level = max one.level other.level;
  offset = max one.offset other.offset;
}

pub record IsNoLater (one other : Key) : Type 0 where
  pub level : one.level ≤ other.level
  pub offset : one.offset ≤ other.offset

-- what an edge asks of firing a of its reader, joined to a key; none where it has no key yet
abbrev pub MeetsNeed : List (List Key) → Edge → Option ℕ → Key → Option Key → Type 0
MeetsNeed table e None key result = result ≡ Some key
MeetsNeed table e (Some b) key None = length (row_at table e.writer) ≤ b
MeetsNeed table e (Some b) key (Some r) =
    (k : Key) × (slice_get (row_at table e.writer) b ≡ Some k) × (r ≡ joined key k)

-- a key that is no earlier than what the first i of these edges ask of firing a of m, and no
-- later than what it must be
pub record IsJoined (edges : List Edge) (pace : ℕ → ℕ) (table : List (List Key)) (m a : ℕ)
    (inputs : List ℕ) (i : ℕ) (r : Key) : Type 0 where
  pub due : a * pace m ≤ r.offset
  pub few : r.level ≤ total table
  pub own : (b : ℕ) → b + 1 ≡ a
      → (k : Key) × (slice_get (row_at table m) b ≡ Some k) × IsNoLater k r
  pub met : (j n b : ℕ) (e : Edge) → j < i → slice_get inputs j ≡ Some n
      → slice_get edges n ≡ Some e → need_of e a ≡ Some b
      → (k : Key) × (slice_get (row_at table e.writer) b ≡ Some k) × IsNoLater k r
  pub least : (f o : ℕ) → Within edges pace (suc f) o m a → (r.level ≤ f) × (r.offset ≤ o)

-- the edges into an actor
pub record AreInputs (edges : List Edge) (m : ℕ) (inputs : List ℕ) : Type 0 where
  pub all : (n : ℕ) (e : Edge) → slice_get edges n ≡ Some e → e.reader ≡ m
      → (j : ℕ) × (slice_get inputs j ≡ Some n)
  pub only : (j n : ℕ) → slice_get inputs j ≡ Some n
      → (e : Edge) × (slice_get edges n ≡ Some e) × (e.reader ≡ m)

-- the edges from an actor
pub record AreOutputs (edges : List Edge) (m : ℕ) (outputs : List ℕ) : Type 0 where
  pub all : (n : ℕ) (e : Edge) → slice_get edges n ≡ Some e → e.writer ≡ m
      → (j : ℕ) × (slice_get outputs j ≡ Some n)
  pub only : (j n : ℕ) → slice_get outputs j ≡ Some n
      → (e : Edge) × (slice_get edges n ≡ Some e) × (e.writer ≡ m)

-- the start of a row's next firing: its due time, and the key of the firing before it
abbrev pub IsStart : List Key → (due : ℕ) → Key → Type 0
IsStart row due r = ((row ≡ []) × (r ≡ key_of 0 due))
    ⊎ ((k : Key) × (slice_get row (length row - 1) ≡ Some k) × (0 < length row)
    × (r ≡ joined (key_of 0 due) k))
