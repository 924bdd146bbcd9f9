-- The periods of a cluster: what each of them records.
-- Source: own; counts after Lee and Messerschmitt 1987, timesteps after IEEE 1666.1-2016.
use Rattle.std.specs.Prelude.{◌≡◌, ◌<◌, ◌≤◌, ◌-◌, ℕ, Bool, List, length, map, slice_get, slice_index, All}
use Rattle.tdf_bind_tables.specs.FlatTables.{FlatTablesOf}
use Rattle.tdf_dynamic_plans.specs.Assignments.{assignments}
use Rattle.tdf_dynamic_plans.specs.Attributes.{AttrsOf, IsOfCluster, clusters_of}
use Rattle.tdf_dynamic_plans.specs.Rates.{NetOf, net_of}
use Rattle.tdf_bind_invariants.specs.Below.{Flat}
use Rattle.tdf_streams.specs.Net.{Period}
use Rattle.tdf_graph.specs.Counts.{AreCounts}
use Rattle.tdf_graph.specs.declared.actors.Edge.{Edge}
use Rattle.tdf_bind_invariants.specs.Limits.{limits_in}
use Rattle.tdf_expr_semantics.specs.Fits.{RatesFit}
use Rattle.tdf_schedule.specs.Needs.{IsGrounded}
use Rattle.tdf_timestep.specs.Period.{IsPeriod}

-- beside the counts of what is done in it and the rates: the attributes in force, the counts of the
-- whole period, its time, in counts of the model's resolution, and whether its plan is a new one
pub record PeriodInfo : Type 0 where
  pub table : List AttrsOf
  pub counts : List ℕ
  pub period : ℕ
  pub is_new : Bool

abbrev pub PeriodRecord : Type 0
PeriodRecord = Period PeriodInfo

-- the net of the model in a period
abbrev pub net_in : FlatTablesOf → PeriodRecord → NetOf
net_in tables p = net_of tables p.info.table

-- the rates of the edges of a net
abbrev pub write_rates : NetOf → List ℕ
write_rates net = map (λ (e : Edge). e.write_rate) net.edges

abbrev pub read_rates : NetOf → List ℕ
read_rates net = map (λ (e : Edge). e.read_rate) net.edges

-- the whole period with these attributes and counts
abbrev pub period_record : FlatTablesOf → List AttrsOf → (counts : List ℕ) → (period : ℕ) → Bool
    → PeriodRecord
period_record tables table counts period is_new = record {
  counts = counts;
  writes = write_rates (net_of tables table);
  reads = read_rates (net_of tables table);
  info = record { table = table; counts = counts; period = period; is_new = is_new };
}

-- each rate variable of a module has a value within its limits
abbrev pub HasAllowedRates : Flat → AttrsOf → Type 0
HasAllowedRates flat attrs =
    RatesFit (limits_in flat.checked (slice_get flat.tables.modules attrs.number)) attrs.rates

-- attributes of the modules of a cluster
pub record AreAttributes (flat : Flat) (cluster : ℕ) (table : List AttrsOf) : Type 0 where
  pub own : All (IsOfCluster flat.tables cluster) table
  pub allowed : All (HasAllowedRates flat) table

-- the firings of a period that were done before the start, where that lies inside the period
abbrev pub done_before : PeriodRecord → ℕ → ℕ
done_before p m = slice_index p.info.counts m - slice_index p.counts m

-- a period with attributes of the cluster: its whole counts and its time are theirs, and so are the
-- rates of its edges; it does the whole of its counts, or what was left of them at the start
pub record IsTimedRecord (flat : Flat) (cluster : ℕ) (p : PeriodRecord) : Type 0 where
  pub attributes : AreAttributes flat cluster p.info.table
  pub writes_are : p.writes ≡ write_rates (net_in flat.tables p)
  pub reads_are : p.reads ≡ read_rates (net_in flat.tables p)
  pub counts_are : AreCounts (net_in flat.tables p).edges (clusters_of flat.tables) cluster
      p.info.counts
  pub period_is : IsPeriod (net_in flat.tables p).ports p.info.counts (assignments p.info.table)
      p.info.period
  pub long : length p.counts ≡ length p.info.counts
  pub left : (m : ℕ) → slice_index p.counts m ≤ slice_index p.info.counts m

-- and each firing can be done
abbrev pub AreGrounded : Flat → PeriodRecord → Type 0
AreGrounded flat p = (m a : ℕ) → a < slice_index p.info.counts m
    → IsGrounded (net_in flat.tables p).edges (λ m. 0) m a

pub record IsPeriodRecord (flat : Flat) (cluster : ℕ) (p : PeriodRecord) : Type 0 where
  pub timed : IsTimedRecord flat cluster p
  pub grounded : AreGrounded flat p

-- it does the whole of its counts
pub record IsWholeRecord (flat : Flat) (cluster : ℕ) (p : PeriodRecord) : Type 0 where
  pub is : IsPeriodRecord flat cluster p
  pub whole : p.counts ≡ p.info.counts
