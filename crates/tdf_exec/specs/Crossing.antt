-- From the end of a period to the next.
-- Source: IEEE 1666.1-2016, changes of attributes between periods; the rest is own.
use Rattle.std.specs.Prelude.{◌≡◌, ◌<◌, ◌++◌, ℕ, Bool, true, false, List, [], ◌∷◌, length, Some, ℤ, Option, None, slice_get, slice_index}
use Rattle.tdf_bind_tables.specs.FlatTables.{FlatTablesOf}
use Rattle.tdf_dynamic.specs.Change.{Asks, asks_of}
use Rattle.tdf_dynamic.specs.declared.next.Next.{Next}
use Rattle.tdf_dynamic.specs.declared.next.Next.TheVariants.{Changed, Same}
use Rattle.tdf_dynamic_plans.specs.Attributes.{AttrsOf, clusters_of}
use Rattle.tdf_dynamic_plans.specs.Faults.{IsTablePlan}
use Rattle.tdf_dynamic_plans.specs.Known.{AreTrueFor, AttrsTable}
use Rattle.tdf_exec.specs.Cluster.{ClusterOf}
use Rattle.tdf_exec.specs.Made.{HasRows, IsClusterOf, IsClusterWith}
use Rattle.tdf_exec.specs.Played.{IsLike, IsPeriodOf, runner_cells, play_of}
use Rattle.tdf_exec.specs.Runners.{ModuleOf}
use Rattle.tdf_exec.specs.declared.runners.Runner.{Runner}
use Rattle.tdf_exec.specs.declared.runners.Runner.TheVariants as runner
use Rattle.tdf_expr.specs.Checked.{IsCheckedOf}
use Rattle.tdf_fixed.specs.declared.raw.Raw.{Raw}
use Rattle.tdf_bind.specs.declared.model.Flat.{Flat}
use Rattle.tdf_streams.specs.Stands.{Crosses, Stands}
use Rattle.tdf_rings.specs.Carried.{ring_at}
use Rattle.tdf_rings.specs.Rings.{RingOf, ring_of}
use Rattle.tdf_schedule.specs.declared.entry.Plan.{Plan}
use Rattle.tdf_streams.specs.Cluster.{Start, cluster_net}
use Rattle.tdf_streams.specs.Periods.{AreAttributes, IsTimedRecord, PeriodRecord}
use Rattle.tdf_streams.specs.Places.{has_changes}
use Rattle.tdf_streams.specs.Starts.{ArePast, held_at_head}
use Rattle.tdf_lang_tree.specs.Pure.{PureTree}

-- no module of the cluster has a body that changes attributes
abbrev pub HasNoChanges : FlatTablesOf → (cluster : ℕ) → Type 0
HasNoChanges tables cluster = (m : ℕ) → m < length tables.modules
    → slice_index (clusters_of tables) m ≡ cluster → has_changes tables.modules m ≡ false

-- a cluster at another place of its plan
abbrev pub at_place : ClusterOf → (place : ℕ) → (crossed : Bool) → ClusterOf
at_place c place crossed = record c { place = place; crossed = crossed }

-- the values of the variables of the modules, by number
abbrev pub cells_in : Option Runner → List ℤ
cells_in None = []
cells_in (Some r) = runner_cells r

abbrev pub values_at : List Runner → ℕ → List ℤ
values_at runners m = cells_in (slice_get runners m)

-- these are the values of the modules of the cluster, by number
pub record AreCellsOf (c : ClusterOf) (cells : ℕ → List ℤ) : Type 0 where
  pub each : (i : ℕ) (attrs : AttrsOf) → slice_get c.table i ≡ Some attrs
      → cells attrs.number ≡ values_at c.runners attrs.number

-- for what the modules of the cluster ask for, by each model that the bodies are of
abbrev pub WhenItAsks : Flat → ClusterOf → (Asks → Type 0) → Type 0
WhenItAsks flat c P = (model : PureTree) (cells : ℕ → List ℤ) → IsCheckedOf model flat.checked
    → AreCellsOf c cells → P (asks_of model flat cells)

-- the cluster has crossed: beside that, only the flags of its table, the plans that are known, and
-- the values and ports of its modules have changed
pub record HasCrossed (c d : ClusterOf) : Type 0 where
  pub rest : d ≡ record c {
    table = d.table;
    known = d.known;
    crossed = true;
    runners = d.runners;
  }
  pub rows : length d.table ≡ length c.table
  pub flags : (i : ℕ) (attrs : AttrsOf) → slice_get c.table i ≡ Some attrs
      → (accepts : Bool) × (slice_get d.table i ≡ Some (record attrs { accepts = accepts }))
  pub same : length d.runners ≡ length c.runners
  pub runners : (m : ℕ) (r : Runner) → slice_get c.runners m ≡ Some r
      → (s : Runner) × (slice_get d.runners m ≡ Some s) × IsLike r s

-- where the cluster stands for the streams at the end of a period, it then crosses to the next: for
-- each model that the bodies are of, and for each start and earlier periods
abbrev pub CrossesFrom : Flat → (c d : ClusterOf) → Type 0
CrossesFrom flat c d = (model : PureTree) (start : Start) (old : List PeriodRecord)
    → (p : PeriodRecord) (reads : ℕ → List Raw) (from f : ℕ)
    → IsCheckedOf model flat.checked → IsPeriodOf c from p
    → Stands (cluster_net model flat c.number start) old p reads f (play_of from c)
    → Crosses (cluster_net model flat c.number start) old p reads f (play_of from d)

-- a new table, its plan and the plans that are known are those of the cluster, and its modules have
-- the rates of this table
pub record IsReadyFor (flat : Flat) (c : ClusterOf) (attrs : AttrsTable) (plan : Plan)
    : Type 0 where
  pub of : IsClusterWith flat attrs.rows c
  pub attributes : AreAttributes flat c.number attrs.rows
  pub rows : HasRows flat.tables c.number attrs.rows
  pub long : length attrs.rows ≡ length c.table
  pub plan_is : IsTablePlan flat.tables c.number attrs.rows plan
  pub known : AreTrueFor flat.tables c.number attrs.known.plans

-- the next period can be begun with an answer
abbrev pub CanInstall : Flat → ClusterOf → Next → Type 0
CanInstall flat c Same = IsClusterOf flat c
CanInstall flat c (Changed attrs plan) = IsReadyFor flat c attrs plan

-- a cluster at the head of a period with a new table and plan
abbrev pub with_new_plan : ClusterOf → AttrsTable → Plan → (reads writes : List ℕ) → List RingOf
    → List Runner → ClusterOf
with_new_plan c attrs plan reads writes rings runners = record c {
  table = attrs.rows;
  known = attrs.known;
  entries = plan.entries.items;
  bounds = plan.bounds.items;
  period = plan.period;
  place = 0;
  crossed = false;
  reads = reads;
  writes = writes;
  rings = rings;
  runners = runners;
}

-- each edge holds as many samples as at the head of each period
abbrev pub HoldHeads : FlatTablesOf → ClusterOf → Type 0
HoldHeads tables c = (e : ℕ) → e < length tables.edges
    → length (ring_at c.rings e).samples ≡ held_at_head tables c.number e

-- the block and the wires of a module and all that isn't a module are as they were
abbrev pub IsKin : Runner → Runner → Type 0
IsKin (runner.Module x) r = (y : ModuleOf) × (r ≡ runner.Module y) × (y.block ≡ x.block)
    × (y.wires ≡ x.wires)
IsKin other r = r ≡ other

-- each edge holds what it held, and has room for its new bound; beside that, the rates in force and
-- what its modules keep have changed
pub record HasNewPlan (c : ClusterOf) (attrs : AttrsTable) (plan : Plan) (d : ClusterOf)
    : Type 0 where
  pub rest : d ≡ with_new_plan c attrs plan d.reads d.writes d.rings d.runners
  pub same : length d.rings ≡ length c.rings
  pub lists : (e : ℕ) → e < length c.rings → ring_at d.rings e
      ≡ ring_of (ring_at c.rings e).samples (slice_index plan.bounds.items e)
  pub as_many : length d.runners ≡ length c.runners
  pub runners : (m : ℕ) (r : Runner) → slice_get c.runners m ≡ Some r
      → (s : Runner) × (slice_get d.runners m ≡ Some s) × IsKin r s

-- the next period has begun, with the same plan or with a new one
abbrev pub HasBegunPeriod : ClusterOf → Next → ClusterOf → Type 0
HasBegunPeriod c Same d = d ≡ at_place c 0 false
HasBegunPeriod c (Changed attrs plan) d = HasNewPlan c attrs plan d

-- where it crosses from a period, it then stands at the head of the next, which has no new plan
abbrev pub StandsAtNext : Flat → (c d : ClusterOf) → Type 0
StandsAtNext flat c d = (model : PureTree) (start : Start) (old : List PeriodRecord)
    → (p next : PeriodRecord) (reads : ℕ → List Raw) (from f : ℕ)
    → ArePast flat c.number start old p → IsTimedRecord flat c.number p
    → next.info.is_new ≡ false
    → Crosses (cluster_net model flat c.number start) old p reads f (play_of from c)
    → Stands (cluster_net model flat c.number start) (old ++ p ∷ []) next reads f (play_of 0 d)

-- the same, where it has a new plan
abbrev pub StandsAtNew : Flat → List AttrsOf → (c d : ClusterOf) → Type 0
StandsAtNew flat attrs c d = (model : PureTree) (start : Start) (old : List PeriodRecord)
    → (p next : PeriodRecord) (reads : ℕ → List Raw) (from f : ℕ)
    → IsCheckedOf model flat.checked → ArePast flat c.number start old p
    → IsTimedRecord flat c.number p → next.info.is_new ≡ true → next.info.table ≡ attrs
    → Crosses (cluster_net model flat c.number start) old p reads f (play_of from c)
    → Stands (cluster_net model flat c.number start) (old ++ p ∷ []) next reads f (play_of 0 d)

-- where it crosses with an answer, it then stands at the head of the period that follows
abbrev pub StandsAfter : Flat → Next → (c d : ClusterOf) → Type 0
StandsAfter flat Same c d = StandsAtNext flat c d
StandsAfter flat (Changed attrs plan) c d = StandsAtNew flat attrs.rows c d
