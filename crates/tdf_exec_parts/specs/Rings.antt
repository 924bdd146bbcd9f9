-- The rings of a cluster: room by the bounds of its plan, and the samples at the start.
-- Source: own; initial samples after IEEE 1666.1-2016, delays of TDF ports.
use Rattle.std.specs.Prelude.{◌≡◌, ◌<◌, ◌≤◌, ℕ, List, [], length, Some, if◌then◌else◌, nat_eq, slice_get, slice_index}
use Rattle.tdf_bind_connections.specs.declared.edges.EdgeRow.{EdgeRow}
use Rattle.tdf_bind_tables.specs.FlatTables.{FlatTablesOf}
use Rattle.tdf_dynamic_plans.specs.Attributes.{clusters_of}
use Rattle.tdf_fixed.specs.declared.raw.Raw.{Raw}
use Rattle.tdf_rings.specs.Carried.{ring_at}
use Rattle.tdf_rings.specs.Rings.{RingOf, ring_of}
use Rattle.tdf_exec_layout.specs.Below.{initial_list}

-- the samples of an edge at first; none of an edge of another cluster
abbrev pub list_of : FlatTablesOf → (cluster : ℕ) → EdgeRow → List Raw
list_of tables cluster edge =
    if nat_eq (slice_index (clusters_of tables) edge.writer) cluster then initial_list tables edge
    else []

-- there is a bound for each edge, whose ring has room for its first samples
pub record FitAtFirst (tables : FlatTablesOf) (cluster : ℕ) (bounds : List ℕ) : Type 0 where
  pub long : length bounds ≡ length tables.edges
  pub fits : (e : ℕ) (edge : EdgeRow) → slice_get tables.edges e ≡ Some edge
      → length (list_of tables cluster edge) ≤ slice_index bounds e

-- a ring for each of the first n edges
pub record AreFirstRings (tables : FlatTablesOf) (cluster : ℕ) (bounds : List ℕ) (n : ℕ)
    (rings : List RingOf) : Type 0 where
  pub long : length rings ≡ n
  pub each : (e : ℕ) (edge : EdgeRow) → e < n → slice_get tables.edges e ≡ Some edge
      → ring_at rings e ≡ ring_of (list_of tables cluster edge) (slice_index bounds e)

-- the rings of the first n of the edges with these numbers, in order
pub record AreOwnFirstRings (tables : FlatTablesOf) (bounds numbers : List ℕ) (n : ℕ)
    (rings : List RingOf) : Type 0 where
  pub long : length rings ≡ n
  pub each : (i : ℕ) (edge : EdgeRow) → i < n
      → slice_get tables.edges (slice_index numbers i) ≡ Some edge → ring_at rings i
      ≡ ring_of (initial_list tables edge) (slice_index bounds (slice_index numbers i))
