-- When a cluster in progress is what the history says of it.
-- Source: own.
use Rattle.std.specs.Prelude.{◌≡◌, ◌≤◌, ◌<◌, ◌+◌, ℕ, false, List, [], All, length, Some, slice_get, slice_index, slice_index_or}
use Rattle.tdf_bind_tables.specs.FlatTables.{FlatTablesOf}
use Rattle.tdf_exec.specs.Cluster.{ClusterOf}
use Rattle.tdf_exec.specs.Made.{IsActorOf, IsClusterOf}
use Rattle.tdf_exec.specs.Played.{IsPeriodOf, counted, play_of}
use Rattle.tdf_exec.specs.Runners.{SamplerOf}
use Rattle.tdf_exec.specs.declared.runners.Runner.TheVariants as runner
use Rattle.tdf_fixed.specs.declared.raw.Raw.{Raw}
use Rattle.tdf_bind.specs.declared.model.Flat.{Flat}
use Rattle.tdf_streams.specs.Grounds.{firings}
use Rattle.tdf_streams.specs.Stands.{Stands}
use Rattle.tdf_graph.specs.declared.actors.Actor.TheVariants as actor
use Rattle.tdf_sim_history.specs.Instant.{activations, periods_of, run_in}
use Rattle.tdf_sim_history.specs.Continuing.{EntriesHaveCounts}
use Rattle.tdf_sim_history.specs.World.{ClusterAt}
use Rattle.tdf_sim_history.specs.WorldLaws.{AreRecordsOf}
use Rattle.tdf_exec.specs.Below.{Reads}
use Rattle.tdf_sim_refinement.specs.Firings.{value_for}
use Rattle.tdf_schedule.specs.declared.entry.Entry.{Entry}
use Rattle.tdf_streams.specs.Cluster.{cluster_net}
use Rattle.tdf_streams.specs.Periods.{PeriodRecord}
use Rattle.tdf_lang_tree.specs.Pure.{PureTree}

-- each actor has its list of reads, and a sampler of the cluster has read once an activation
pub record HaveRead (tables : FlatTablesOf) (number : ℕ) (h : ClusterAt) : Type 0 where
  pub same : length h.reads ≡ length tables.actors
  pub samplers : (m : ℕ) → IsActorOf tables number m actor.Sampler
      → length (slice_index_or h.reads m []) ≡ activations h m

-- the cluster of this number has the plan of the history, and the place in it; its period is the
-- history's, and it stands for the streams of the periods and reads of the history
pub record IsAt (model : PureTree) (flat : Flat) (number : ℕ) (h : ClusterAt) (c : ClusterOf)
    : Type 0 where
  pub number_is : c.number ≡ number
  pub entries_are : c.entries ≡ h.entries
  pub bounds_are : c.bounds ≡ h.bounds
  pub place_is : c.place ≡ h.place
  pub table_is : c.table ≡ h.now.info.table
  pub time_is : c.period ≡ h.now.info.period
  pub not_crossed : c.crossed ≡ false
  -- all that is told of its boundaries was used: it has come to none of those to come
  pub none_ahead : h.ahead ≡ []
  pub of : IsClusterOf flat c
  -- the start, or the period, lies at a place of the plan, which has the counts of a whole period
  pub period : IsPeriodOf c h.from h.now
  pub counts : EntriesHaveCounts h.entries h.now.info.counts
  pub records : AreRecordsOf flat number h.begun (periods_of h)
  pub have_read : HaveRead flat.tables number h
  -- each actor was activated as often as in the history, or as often as can be counted
  pub positions : (m : ℕ) → m < length c.positions
      → slice_index c.positions m ≡ counted (activations h m)
  pub steps : ℕ
  pub few : steps + h.from ≤ firings h.old + h.place
  pub stands : Stands (cluster_net model flat number h.begun) h.old h.now (run_in h).reads steps
      (play_of h.from c)

-- the inputs of a cluster are, for its samplers that are due, what these read
pub record AreSettled (tables : FlatTablesOf) (values : List Raw) (offset : ℕ) (c : ClusterOf)
    (inputs : List Raw) : Type 0 where
  pub are : (i : ℕ) (x : Entry) (s : SamplerOf) (v : Raw) → c.place ≤ i
      → slice_get c.entries i ≡ Some x → x.offset ≡ offset
      → slice_get c.runners x.actor ≡ Some (runner.Sampler s)
      → slice_get inputs s.place ≡ Some v → v ≡ value_for tables values x.actor

-- a sink of the cluster took one sample an activation in each period before
pub record HaveTakenOne (tables : FlatTablesOf) (number : ℕ) (h : ClusterAt) : Type 0 where
  pub each : (m e : ℕ) → IsActorOf tables number m actor.Sink → Reads tables m e
      → All (λ (p : PeriodRecord). slice_index p.reads e ≡ 1) h.old
