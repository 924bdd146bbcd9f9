-- What edges hold at a place of a plan, by the rates and the counts of firings.
-- Source: own.
use Rattle.std.specs.Prelude.{◌≡◌, ◌+◌, ◌*◌, ◌<◌, ℕ, ℤ, List, [], Some, length, slice_get, slice_index, slice_index_or}
use Rattle.tdf_bind_connections.specs.declared.edges.EdgeRow.{EdgeRow}
use Rattle.tdf_bind_tables.specs.FlatTables.{FlatTablesOf}
use Rattle.tdf_cluster_plans.specs.Counted.{firings_of}
use Rattle.tdf_exec_layout.specs.Samples.{format_of_port}
use Rattle.tdf_exec_parts.specs.States.{AreInFormat}
use Rattle.tdf_schedule.specs.declared.entry.Entry.{Entry}

-- an edge with these rates has what these entries leave of its samples
pub record IsLeftOn (tables : FlatTablesOf) (entries : List Entry) (edge : EdgeRow)
    (read_rate write_rate : ℕ) (nums : List ℤ) : Type 0 where
  pub held : length nums + firings_of entries edge.reader * read_rate
      ≡ edge.initial + firings_of entries edge.writer * write_rate
  pub format : AreInFormat (format_of_port tables (slice_get tables.ports edge.port)) nums

-- so have the first n of the edges with these numbers
abbrev pub AreLeftUpTo : (tables : FlatTablesOf) → List Entry → (reads writes numbers : List ℕ)
    → (edges : List (List ℤ)) → (n : ℕ) → Type 0
AreLeftUpTo tables entries reads writes numbers edges n = (i : ℕ) (edge : EdgeRow) → i < n
    → slice_get tables.edges (slice_index numbers i) ≡ Some edge
    → IsLeftOn tables entries edge (slice_index reads i) (slice_index writes i)
    (slice_index_or edges i [])

-- there is a list for each of them, which is such
pub record AreLeft (tables : FlatTablesOf) (entries : List Entry) (reads writes numbers : List ℕ)
    (edges : List (List ℤ)) : Type 0 where
  pub long : length edges ≡ length numbers
  pub each : AreLeftUpTo tables entries reads writes numbers edges (length numbers)
