-- Which samples a signal and the edges of its readers have.
-- Source: own.
use Rattle.std.specs.Prelude.{ℕ, ◌+◌, ◌*◌, ◌<◌, ◌≡◌, Some, List, ◌∷◌, ◌++◌, All, slice_get, slice_index, sum_by, ℤ}
use Rattle.tdf_bind_tables.specs.FlatTables.{FlatTablesOf}
use Rattle.tdf_dynamic_plans.specs.Attributes.{AttrsOf, clusters_of}
use Rattle.tdf_fixed.specs.declared.raw.Raw.{Raw}
use Rattle.tdf_bind_invariants.specs.Below.{Flat, IsFlatOf}
use Rattle.tdf_streams.specs.Net.{Past, Turn, count}
use Rattle.tdf_streams.specs.Streams.{place}
use Rattle.tdf_bind_invariants.specs.Limits.{AreWithinLimits}
use Rattle.tdf_streams.specs.Cluster.{cluster_net, initial_sample, text_start}
use Rattle.tdf_streams.specs.Periods.{IsTimedRecord, PeriodRecord}
use Rattle.tdf_streams.specs.Signals.{outputs_in, rate_in, signal_sample}
use Rattle.tdf_lang_tree.specs.Pure.{PureTree}
use Rattle.tdf_bind_connections.specs.declared.edges.EdgeRow.{EdgeRow}
use Rattle.tdf_bind_connections.specs.declared.modules.PortRow.{PortRow}

-- output k of activation a of a period is, by what was put before it, a sample of the signal
abbrev pub OutputsAreSamples : Type 0
OutputsAreSamples = (tables : FlatTablesOf) (old : List PeriodRecord) (p : PeriodRecord)
    → (later : List PeriodRecord) (port : PortRow) (number a k : ℕ) (past : Past (List ℤ) Raw)
    → (t : Turn (List ℤ) Raw) → a < count port.«module» p → k < rate_in port p
    → past port.«module» (sum_by (count port.«module») old + a) ≡ Some t
    → signal_sample tables (old ++ p ∷ later) port number past
    (port.delay + (sum_by (outputs_in port) old + (a * rate_in port p + k)))
    ≡ Some (t.outputs number k)

-- an edge from a port to the port that reads its signal
pub record IsDriven (tables : FlatTablesOf) (edge : EdgeRow) (out : ℕ) (port driver : PortRow)
    : Type 0 where
  pub reader : slice_get tables.ports edge.port ≡ Some port
  pub driven : edge.driver ≡ Some out
  pub writer : slice_get tables.ports out ≡ Some driver

-- it begins with the initial samples of the port that reads, and then has those of the signal
abbrev pub EdgesCarrySignals : Type 0
EdgesCarrySignals = (model : PureTree) (flat : Flat) (cluster : ℕ) (table : List AttrsOf)
    → (periods : List PeriodRecord) (past : Past (List ℤ) Raw) (e out j : ℕ) (edge : EdgeRow)
    → (port driver : PortRow) → AreWithinLimits flat → IsFlatOf model flat
    → All (IsTimedRecord flat cluster) periods → slice_get flat.tables.edges e ≡ Some edge
    → slice_index (clusters_of flat.tables) edge.writer ≡ cluster
    → IsDriven flat.tables edge out port driver
    → place (cluster_net model flat cluster (text_start model flat cluster table)) periods past e
    (port.delay + j) ≡ signal_sample flat.tables periods driver out past j

abbrev pub EdgesBeginAsRead : Type 0
EdgesBeginAsRead = (model : PureTree) (flat : Flat) (cluster : ℕ) (table : List AttrsOf)
    → (periods : List PeriodRecord) (past : Past (List ℤ) Raw) (e k : ℕ) (edge : EdgeRow)
    → (port : PortRow) → IsFlatOf model flat → slice_get flat.tables.edges e ≡ Some edge
    → slice_index (clusters_of flat.tables) edge.writer ≡ cluster
    → slice_get flat.tables.ports edge.port ≡ Some port → k < port.delay
    → place (cluster_net model flat cluster (text_start model flat cluster table)) periods past e k
    ≡ Some (initial_sample flat.tables port k)
