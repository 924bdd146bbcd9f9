-- The worklist: actors that may have a firing whose needs all have their keys.
use Rattle.std.specs.Prelude.{ℕ, ◌+◌, ◌-◌, ◌*◌, ◌^◌, ◌<◌, ◌≤◌, ◌≡◌, ◌⊎◌, Bool, true, false, Option, Some, None, List, [], ◌∷◌, ◌++◌, length, map, sum, slice_get, slice_index, slice_index_or, slice_set, All}
use Rattle.tdf_base.specs.Limits.{most_firings}
use Rattle.tdf_graph.specs.Ranges.{IsEdge}
use Rattle.tdf_graph.specs.declared.actors.Edge.{Edge}
use Rattle.tdf_schedule.specs.declared.key.Key.{Key}
use Rattle.tdf_schedule.specs.views.Table.{row_at, total, AreLow, HasKeys, IsStuck}

abbrev pub links_at : List (List ℕ) → ℕ → List ℕ
links_at lists m = slice_index_or lists m []

-- the edges into each actor that fires, of the first n
pub record AreInputsUpTo (n : ℕ) (counts : List ℕ) (edges : List Edge) (lists : List (List ℕ))
    : Type 0 where
  pub long : length lists ≡ length counts
  pub all : (k : ℕ) (e : Edge) → k < n → slice_get edges k ≡ Some e
      → 0 < slice_index counts e.reader
      → (j : ℕ) × (slice_get (links_at lists e.reader) j ≡ Some k)
  pub only : (m j k : ℕ) → slice_get (links_at lists m) j ≡ Some k
      → (e : Edge) × (slice_get edges k ≡ Some e) × (e.reader ≡ m)

-- the edges from each actor that fires, of the first n
pub record AreOutputsUpTo (n : ℕ) (counts : List ℕ) (edges : List Edge) (lists : List (List ℕ))
    : Type 0 where
  pub long : length lists ≡ length counts
  pub all : (k : ℕ) (e : Edge) → k < n → slice_get edges k ≡ Some e
      → 0 < slice_index counts e.writer
      → (j : ℕ) × (slice_get (links_at lists e.writer) j ≡ Some k)
  pub only : (m j k : ℕ) → slice_get (links_at lists m) j ≡ Some k
      → (e : Edge) × (slice_get edges k ≡ Some e) × (e.writer ≡ m)
  pub few : (m : ℕ) → length (links_at lists m) ≤ n

-- the readers of edges whose numbers are told
abbrev pub reader_of : Option Edge → ℕ
reader_of None = 0
reader_of (Some e) = e.reader

abbrev pub readers_in : List Edge → List ℕ → List ℕ
readers_in edges list = map (λ k. reader_of (slice_get edges k)) list

-- all firings of an actor have their keys, or the next one can't have it yet
abbrev pub IsSettled : List Edge → List ℕ → List (List Key) → ℕ → Type 0
IsSettled edges counts table m =
    (length (row_at table m) ≡ slice_index counts m) ⊎ IsStuck edges table m

-- the rows of keys, each within its actor's count
pub record AreRows (edges : List Edge) (pace : ℕ → ℕ) (counts : List ℕ) (table : List (List Key))
    : Type 0 where
  pub same : length table ≡ length counts
  pub within : (m : ℕ) → length (row_at table m) ≤ slice_index counts m
  pub keys : HasKeys edges pace table
  pub low : AreLow table

-- each actor is on the stack, or settled
pub record IsWorked (edges : List Edge) (counts : List ℕ) (table : List (List Key))
    (stack : List ℕ) (on : List Bool) : Type 0 where
  pub flags : length on ≡ length counts
  pub stacked : (k : ℕ) → slice_index_or on k false ≡ true
      → (j : ℕ) × (slice_get stack j ≡ Some k)
  pub inside : (j k : ℕ) → slice_get stack j ≡ Some k → k < length counts
  pub settled : (k : ℕ) → k < length counts → slice_index_or on k false ≡ false
      → IsSettled edges counts table k

-- the first n of a list are put on the stack, each that isn't there
pub record ArePushed (list : List ℕ) (n : ℕ) (old new : List ℕ) (old_on new_on : List Bool)
    : Type 0 where
  pub flags : length new_on ≡ length old_on
  pub few : length new ≤ length old + n
  pub kept : (j k : ℕ) → slice_get old j ≡ Some k → slice_get new j ≡ Some k
  pub inside : (j k : ℕ) → slice_get new j ≡ Some k
      → (k < length old_on) ⊎ (slice_get old j ≡ Some k)
  pub pushed : (j k : ℕ) → j < n → slice_get list j ≡ Some k → slice_index_or new_on k false ≡ true
  pub on : (k : ℕ) → slice_index_or old_on k false ≡ true → slice_index_or new_on k false ≡ true
  pub stacked : (k : ℕ) → slice_index_or new_on k false ≡ true
      → (slice_index_or old_on k false ≡ true) ⊎ ((j : ℕ) × (slice_get new j ≡ Some k))

-- what is left to do
abbrev pub weight : List Edge → List ℕ → List (List Key) → List ℕ → ℕ
weight edges counts table stack =
    (sum counts - total table) * (length edges + 2) + length stack

-- at first each of the first n actors that fires is on the stack
pub record IsStarted (n : ℕ) (counts : List ℕ) (stack : List ℕ) (on : List Bool) : Type 0 where
  pub flags : length on ≡ length counts
  pub stacked : (k : ℕ) → slice_index_or on k false ≡ true
      → (j : ℕ) × (slice_get stack j ≡ Some k)
  pub inside : (j k : ℕ) → slice_get stack j ≡ Some k → k < length counts
  pub firing : (k : ℕ) → k < n → 0 < slice_index counts k → slice_index_or on k false ≡ true

-- a key more in a row
abbrev pub with_key : List (List Key) → ℕ → Key → List (List Key)
with_key table m key = slice_set table m (row_at table m ++ key ∷ [])

-- one actor has more firings with keys, or as many as before, and all others have what they had
pub record HasGrown (m : ℕ) (old new : List (List Key)) : Type 0 where
  pub kept : length (row_at old m) ≤ length (row_at new m)
  pub others : (k : ℕ) → (k ≡ m → ⊥) → row_at new k ≡ row_at old k
  pub whole : total new + length (row_at old m) ≡ total old + length (row_at new m)

-- what the work is done on
pub record AreGiven (edges : List Edge) (counts paces : List ℕ) (inputs outputs : List (List ℕ))
    : Type 0 where
  pub fit : All (IsEdge (length counts)) edges
  pub few : sum counts ≤ most_firings
  pub long : length paces ≡ length counts
  pub short : (m : ℕ) → slice_index counts m * slice_index paces m < 2 ^ 63
  pub into : AreInputsUpTo (length edges) counts edges inputs
  pub out : AreOutputsUpTo (length edges) counts edges outputs
