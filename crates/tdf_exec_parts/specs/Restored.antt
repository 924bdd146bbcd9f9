-- What the edges of a cluster hold by a state, and the rings that hold it.
-- Source: own.
use Rattle.std.specs.Prelude.{◌≡◌, ◌<◌, ◌≤◌, ℕ, ℤ, List, [], None, Option, Some, if◌then◌else◌, length, map, slice_index, slice_index_or}
use Rattle.tdf_bind_tables.specs.FlatTables.{FlatTablesOf}
use Rattle.tdf_exec_layout.specs.Samples.{edge_format}
use Rattle.tdf_exec_parts.specs.States.{place_of_edge}
use Rattle.tdf_fixed.specs.Cast.{fraction_of}
use Rattle.tdf_fixed.specs.declared.format.Format.{Format}
use Rattle.tdf_fixed.specs.declared.raw.Raw.{Raw}
use Rattle.tdf_rings.specs.Carried.{ring_at}
use Rattle.tdf_rings.specs.Rings.{RingOf, ring_of}
use Rattle.tdf_exec_layout.specs.Below.{is_own}

-- whole numbers of the least steps of the format of an edge, as samples
abbrev pub samples_by : Option Format → List ℤ → List Raw
samples_by None nums = []
samples_by (Some f) nums =
    map (λ (num : ℤ). record { num = num; frac = fraction_of f }) nums

-- what an edge holds, where the edges of the cluster hold these numbers, in order; edges of other
-- clusters hold nothing
abbrev pub held_by_state : FlatTablesOf → (cluster : ℕ) → (edges : List (List ℤ)) → ℕ → List Raw
held_by_state tables cluster edges e = if is_own tables cluster e
    then samples_by (edge_format tables e)
    (slice_index_or edges (place_of_edge tables cluster e) [])
    else []

-- the edges with these numbers have room for what they hold
abbrev pub FitStateRings : FlatTablesOf → (bounds numbers : List ℕ) → (edges : List (List ℤ))
    → Type 0
FitStateRings tables bounds numbers edges = (i : ℕ) → i < length numbers
    → length (samples_by (edge_format tables (slice_index numbers i)) (slice_index_or edges i []))
    ≤ slice_index bounds (slice_index numbers i)

-- the rings of the first n of the edges with these numbers, in order
pub record AreOwnStateRings (tables : FlatTablesOf) (bounds numbers : List ℕ)
    (edges : List (List ℤ)) (n : ℕ) (rings : List RingOf) : Type 0 where
  pub long : length rings ≡ n
  pub each : (i : ℕ) → i < n → ring_at rings i ≡ ring_of
      (samples_by (edge_format tables (slice_index numbers i)) (slice_index_or edges i []))
      (slice_index bounds (slice_index numbers i))

-- a ring for each of the first n edges
pub record AreStateRings (tables : FlatTablesOf) (cluster : ℕ) (bounds : List ℕ)
    (edges : List (List ℤ)) (n : ℕ) (rings : List RingOf) : Type 0 where
  pub long : length rings ≡ n
  pub each : (e : ℕ) → e < n → ring_at rings e
      ≡ ring_of (held_by_state tables cluster edges e) (slice_index bounds e)
