-- A cluster of a run at a time, one that goes on from there, and what both come to.
-- Source: own.
use Rattle.std.specs.Prelude.{◌≡◌, ◌≤◌, ◌+◌, ◌++◌, ◌∷◌, ℕ, ℤ, false, List, [], Some, length, map, slice_index, slice_index_or}
use Rattle.tdf_bind.specs.declared.model.Flat.{Flat}
use Rattle.tdf_dynamic_first.specs.Text.{first_table}
use Rattle.tdf_dynamic_plans.specs.Attributes.{AttrsOf}
use Rattle.tdf_dynamic_plans.specs.Faults.{IsTablePlan}
use Rattle.tdf_fixed.specs.declared.raw.Raw.{Raw}
use Rattle.tdf_graph.specs.declared.actors.Actor.TheVariants as actor
use Rattle.tdf_lang_tree.specs.Pure.{PureTree}
use Rattle.tdf_schedule.specs.declared.entry.Plan.{Plan}
use Rattle.tdf_sim_history.specs.Continuing.{HasWholePlan}
use Rattle.tdf_sim_history.specs.Instant.{activations, acts_now, periods_of, run_in}
use Rattle.tdf_sim_history.specs.Start.{counts_in}
use Rattle.tdf_sim_history.specs.World.{ClusterAt}
use Rattle.tdf_sim_history.specs.WorldLaws.{AreRecordsOf}
use Rattle.tdf_streams.specs.Cluster.{cluster_net}
use Rattle.tdf_streams.specs.Periods.{PeriodRecord}
use Rattle.tdf_streams.specs.Places.{actor_kind}
use Rattle.tdf_streams.specs.Stands.{Play, Stands}
use Rattle.tdf_streams_onward.specs.Onward.{StartsFrom}

-- the plan in force is that of the table
pub record HasPlanOfTable (flat : Flat) (number : ℕ) (c : ClusterAt) : Type 0 where
  pub plan : Plan
  pub is : IsTablePlan flat.tables number c.now.info.table plan
  pub entries : c.entries ≡ plan.entries.items
  pub bounds : c.bounds ≡ plan.bounds.items
  pub period : c.now.info.period ≡ plan.period

-- a cluster of a history from a good start: its periods are those of its start, its plan has the
-- firings of the period, and each of its samplers has read as often as it was activated
pub record IsSoundCluster (flat : Flat) (number : ℕ) (c : ClusterAt) : Type 0 where
  pub records : AreRecordsOf flat number c.begun (periods_of c)
  pub members : map (λ (attrs : AttrsOf). attrs.number) c.now.info.table
      ≡ map (λ (attrs : AttrsOf). attrs.number) (first_table flat number)
  pub planned : HasPlanOfTable flat number c
  pub plan : HasWholePlan c
  pub counts : c.now.info.counts ≡ counts_in flat.tables c.entries
  pub from : c.from ≤ c.place
  pub place : c.place ≤ length c.entries
  pub many : length c.reads ≡ length flat.tables.actors
  pub samplers : (m : ℕ) → actor_kind flat.tables m ≡ Some actor.Sampler
      → length (slice_index_or c.reads m []) ≡ activations c m
  pub none : (m : ℕ) → (actor_kind flat.tables m ≡ Some actor.Sampler → ⊥)
      → slice_index_or c.reads m [] ≡ []

-- what is left of the period of a cluster from its place on; its bodies see it as no new one
pub record IsRestOf (c : ClusterAt) (q : PeriodRecord) : Type 0 where
  pub counts : (m : ℕ) → acts_now c m + slice_index q.counts m ≡ slice_index c.now.counts m
  pub writes : q.writes ≡ c.now.writes
  pub reads : q.reads ≡ c.now.reads
  pub info : q.info ≡ record c.now.info { is_new = false }

-- a cluster `b` goes on from what a cluster `c` holds
pub record IsResumedCluster (model : PureTree) (flat : Flat) (number : ℕ) (c b : ClusterAt)
    : Type 0 where
  pub play : Play (List ℤ) Raw
  pub steps : ℕ
  pub turns : (m : ℕ) → slice_index play.turns m ≡ acts_now c m
  pub actors : length play.states ≡ length flat.tables.actors
  pub stands : Stands (cluster_net model flat number c.begun) c.old c.now (run_in c).reads steps
      play
  pub starts : StartsFrom (cluster_net model flat number c.begun) play
      (cluster_net model flat number b.begun).delay
      (cluster_net model flat number b.begun).initial
      (cluster_net model flat number b.begun).start
  pub rest : IsRestOf c b.now
  pub entries : b.entries ≡ c.entries
  pub bounds : b.bounds ≡ c.bounds
  pub since : b.since ≡ c.since
  pub from : b.from ≡ c.place
  pub place : b.place ≡ c.place
  pub old : b.old ≡ []
  pub ahead : b.ahead ≡ c.ahead
  pub many : length b.reads ≡ length c.reads
  pub none : (m : ℕ) → slice_index_or b.reads m [] ≡ []

-- the periods of `h`, which came from `c`, and of `g`, which came from `b`: both are inside the
-- period of `c`, or the same periods came after it
pub data HavePeriods (c b h g : ClusterAt) : Type 0 where
  Inside : h.old ≡ c.old → h.now ≡ c.now → g.old ≡ [] → g.now ≡ b.now → h.from ≡ c.from
      → g.from ≡ c.place → c.place ≤ h.place → h.entries ≡ c.entries → HavePeriods c b h g
  Later : (between : List PeriodRecord) → h.old ≡ c.old ++ c.now ∷ between
      → g.old ≡ b.now ∷ between → g.now ≡ h.now → h.from ≡ 0 → g.from ≡ 0 → HavePeriods c b h g

-- what `c` came to and what `b` came to are the same from there on
pub record Follows (c b h g : ClusterAt) : Type 0 where
  pub begun : h.begun ≡ c.begun
  pub begun_on : g.begun ≡ b.begun
  pub entries : g.entries ≡ h.entries
  pub bounds : g.bounds ≡ h.bounds
  pub since : g.since ≡ h.since
  pub place : g.place ≡ h.place
  pub ahead : g.ahead ≡ h.ahead
  pub periods : HavePeriods c b h g
  pub many : length g.reads ≡ length h.reads
  pub reads : (m : ℕ) → slice_index_or h.reads m []
      ≡ slice_index_or c.reads m [] ++ slice_index_or g.reads m []
