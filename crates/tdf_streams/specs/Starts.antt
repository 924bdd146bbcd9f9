-- Periods from a start on: what the lists of a start hold, and which periods follow.
-- Source: own.
use Rattle.std.specs.Prelude.{◌≡◌, ◌<◌, ◌+◌, ◌*◌, ℕ, List, [], ◌∷◌, Option, Some, None, length, if◌then◌else◌, slice_get, slice_index, slice_index_or, All}
use Rattle.tdf_bind_tables.specs.FlatTables.{FlatTablesOf}
use Rattle.tdf_bind_invariants.specs.Below.{Flat}
use Rattle.tdf_streams.specs.Cluster.{Start}
use Rattle.tdf_streams.specs.Periods.{PeriodRecord, IsPeriodRecord, IsWholeRecord, done_before}
use Rattle.tdf_streams.specs.Places.{is_own, reader_at, writer_at}
use Rattle.tdf_bind_connections.specs.declared.edges.EdgeRow.{EdgeRow}

-- the samples that an edge of the cluster holds at the head of each whole period; of edges of other
-- clusters nothing is held
abbrev pub initial_of_row : Option EdgeRow → ℕ
initial_of_row None = 0
initial_of_row (Some edge) = edge.initial

abbrev pub held_at_head : FlatTablesOf → (cluster : ℕ) → ℕ → ℕ
held_at_head tables cluster e =
    if is_own tables cluster e then initial_of_row (slice_get tables.edges e) else 0

-- the lists of a start are as long as the firings of the period that were done before it leave them
abbrev pub HasLists : Flat → (cluster : ℕ) → Start → PeriodRecord → Type 0
HasLists flat cluster start p = (e : ℕ) → e < length flat.tables.edges
    → length (slice_index_or start.lists e [])
    + done_before p (reader_at flat.tables.edges e) * slice_index p.reads e
    ≡ held_at_head flat.tables cluster e
    + done_before p (writer_at flat.tables.edges e) * slice_index p.writes e

-- the period that a start lies in, or that begins with it, and those after it
pub record AreRecords (flat : Flat) (cluster : ℕ) (start : Start) (first : PeriodRecord)
    (later : List PeriodRecord) : Type 0 where
  pub lists : HasLists flat cluster start first
  pub head : IsPeriodRecord flat cluster first
  pub rest : All (IsWholeRecord flat cluster) later

-- the periods before one, from a start on; the start lies inside the first period alone
abbrev pub ArePast : Flat → (cluster : ℕ) → Start → List PeriodRecord → PeriodRecord → Type 0
ArePast flat cluster start [] p = HasLists flat cluster start p
ArePast flat cluster start (first ∷ later) p = AreRecords flat cluster start first later
    × (p.counts ≡ p.info.counts)
