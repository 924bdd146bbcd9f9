-- The periods of signals that begin at a time, by the clusters in progress.
-- Source: own.
use Rattle.std.specs.Prelude.{◌≡◌, ◌<◌, ◌+◌, ◌*◌, ◌/◌, ◌^◌, ℕ, Bool, true, nat_eq, List, Option, Some, None, length, slice_get, slice_index}
use Rattle.tdf_bind_tables.specs.FlatTables.{FlatTablesOf}
use Rattle.tdf_trace.specs.Calls.{HasNoneLeft}
use Rattle.tdf_trace.specs.Tracked.{TrackedOf}
use Rattle.tdf_dynamic_plans.specs.Attributes.{AttrsOf}
use Rattle.tdf_dynamic_plans.specs.Rates.{port_rate}
use Rattle.tdf_sim_refinement.specs.Below.{ClusterOf, IsClusterOf, turns_from}
use Rattle.tdf_bind.specs.declared.model.Flat.{Flat}
use Rattle.tdf_bind_invariants.specs.Limits.{AreWithinLimits}
use Rattle.tdf_trace_rows.specs.Positions.{Span, span_of}
use Rattle.tdf_sim_traces.specs.declared.periods.Clock.{Clock}
use Rattle.tdf_sim_traces.specs.declared.signals.TracedSignal.{TracedSignal}
use Rattle.tdf_bind_connections.specs.declared.modules.PortRow.{PortRow}

-- what goes by time: the time, the start of the period of each cluster, and the clusters
pub record ClockAt : Type 0 where
  pub time : ℕ
  pub since : List ℕ
  pub clusters : List ClusterOf

abbrev pub clock_at : (time : ℕ) → (since : List ℕ) → List ClusterOf → ClockAt
clock_at time since clusters = record { time = time; since = since; clusters = clusters }

-- as the code has it
abbrev pub clock_of : Clock → ClockAt
clock_of clock = clock_at clock.time clock.since.now clock.clusters.now

-- the period of the cluster of a signal begins at the time
abbrev pub begins : ClockAt → TracedSignal → Bool
begins clock t = nat_eq (slice_index clock.since t.cluster) clock.time

-- the rate in force of a port
abbrev pub row_rate : List AttrsOf → Option PortRow → ℕ
row_rate table None = 1
row_rate table (Some row) = port_rate table row

-- how many positions a signal has in a period of its cluster: the samples of its port
abbrev pub positions_in : FlatTablesOf → ClusterOf → TracedSignal → ℕ
positions_in tables c t = turns_from c.entries 0 (length c.entries) t.«module»
    * row_rate c.table (slice_get tables.ports t.port)

-- they part the period into equal steps
abbrev pub span_in : FlatTablesOf → (time : ℕ) → ClusterOf → TracedSignal → Span
span_in tables time c t =
    span_of time (c.period / positions_in tables c t) (positions_in tables c t)

-- a signal has positions in a period of its cluster that begins at a time
pub record CanBegin (flat : Flat) (time : ℕ) (c : ClusterOf) (t : TracedSignal) : Type 0 where
  pub of : IsClusterOf flat c
  pub port : t.port < length flat.tables.ports
  pub some : 0 < positions_in flat.tables c t
  pub few : positions_in flat.tables c t < 2 ^ 64
  pub short : time + c.period < 2 ^ 64

-- periods of signals can begin at a time: all positions of the last ones have their times
pub record CanBeginAll (flat : Flat) (clock : ClockAt) (signals : List TracedSignal)
    (list : List TrackedOf) : Type 0 where
  pub limits : AreWithinLimits flat
  pub since : (k : ℕ) (t : TracedSignal) → slice_get signals k ≡ Some t
      → t.cluster < length clock.since
  pub clusters : (k : ℕ) (t : TracedSignal) → slice_get signals k ≡ Some t
      → t.cluster < length clock.clusters
  pub can : (k : ℕ) (t : TracedSignal) (c : ClusterOf) → slice_get signals k ≡ Some t
      → begins clock t ≡ true → slice_get clock.clusters t.cluster ≡ Some c
      → CanBegin flat clock.time c t
  pub none : (k : ℕ) (t : TracedSignal) → slice_get signals k ≡ Some t
      → begins clock t ≡ true → HasNoneLeft t.signal list
  pub once : (i j : ℕ) (t u : TracedSignal) → slice_get signals i ≡ Some t
      → slice_get signals j ≡ Some u → t.signal ≡ u.signal → i ≡ j
