-- What a boundary of a cluster leads to by the bodies of its modules, and when what is told of the
-- boundaries of a history is that.
-- Source: IEEE 1666.1-2016, changes of attributes between periods; that they are told is own.
use Rattle.std.specs.List.{sum_by}
use Rattle.std.specs.Prelude.{◌≡◌, ◌<◌, ◌+◌, ℕ, true, List, [], All, IsSome, Option, Some, ℤ, slice_get, unwrap_or}
use Rattle.tdf_bind_tables.specs.FlatTables.{FlatTablesOf}
use Rattle.tdf_dynamic.specs.Change.{Asks, IsChangeFault, IsNewPlan, IsSame, asks_of, table_after}
use Rattle.tdf_dynamic_plans.specs.Attributes.{AttrsOf}
use Rattle.tdf_dynamic.specs.Below.{Flat, cluster_net, count, firings, known, spot, state_before}
use Rattle.tdf_sim_history.specs.Instant.{at_begin, boundary, engine, is_due, is_over, periods_of, run_in}
use Rattle.tdf_sim_history.specs.Start.{counts_in}
use Rattle.tdf_sim_history.specs.World.{Change, ClusterAt, New, Refused, Rules, Same, World, next_change}
use Rattle.tdf_sim_history.specs.History.{Going, On, history, turns_to}
use Rattle.tdf_schedule.specs.declared.entry.Entry.{Entry}
use Rattle.tdf_schedule.specs.declared.entry.Plan.{Plan}
use Rattle.tdf_lang_tree.specs.Pure.{PureTree}

-- what the variables of module m hold when the period of its cluster is done: by the streams, what
-- its last activation left
abbrev pub last_cells : PureTree → Flat → (number : ℕ) → ClusterAt → (m : ℕ) → Option (List ℤ)
last_cells model flat number c m = state_before (cluster_net model flat number c.begun)
    (known (cluster_net model flat number c.begun) (run_in c) (firings (periods_of c))) m
    (spot c.old c.now (count m c.now)) (sum_by (count m) c.old + count m c.now)

-- so what the modules of cluster `number` ask for at its boundary
abbrev pub asks_in : PureTree → Flat → (number : ℕ) → ClusterAt → Asks
asks_in model flat number c =
    asks_of model flat (λ m. unwrap_or (last_cells model flat number c m) [])

-- a new table, and the plan under it
pub record IsNewPeriod (tables : FlatTablesOf) (number : ℕ) (asks : Asks) (table new : List AttrsOf)
    (counts : List ℕ) (period : ℕ) (entries : List Entry) (bounds : List ℕ) : Type 0 where
  pub table_is : new ≡ table_after asks table
  pub plan : Plan
  pub plan_is : IsNewPlan tables number asks table plan
  pub counts_are : counts ≡ counts_in tables entries
  pub period_is : period ≡ plan.period
  pub entries_are : entries ≡ plan.entries.items
  pub bounds_are : bounds ≡ plan.bounds.items

-- what these modules ask for leads to this: no module differs, there is a new plan, or a fault
abbrev pub Leads : FlatTablesOf → (number : ℕ) → Asks → List AttrsOf → Change → Type 0
Leads tables number asks table (Same new) = IsSame asks table × (new ≡ table_after asks table)
Leads tables number asks table (New new counts period entries bounds) =
    IsNewPeriod tables number asks table new counts period entries bounds
Leads tables number asks table (Refused fault) = IsChangeFault tables number asks table fault

-- the answer of a boundary: what the modules ask for, all of which have their values, leads to it
pub record IsAnswer (model : PureTree) (flat : Flat) (number : ℕ) (c : ClusterAt)
    (change : Change) : Type 0 where
  pub known : All (λ (attrs : AttrsOf). IsSome (last_cells model flat number c attrs.number))
      c.now.info.table
  pub leads : Leads flat.tables number (asks_in model flat number c) c.now.info.table change

-- in the instant at a time that begins with w, the boundary of cluster n has its turn: v is what
-- the turns before it left, its period is over there, and a turn is left
pub record HasTurn {K : Type 0} (tables : FlatTablesOf) (time n : ℕ) (w v : World K) (c : ClusterAt)
    : Type 0 where
  pub before : turns_to (boundary tables time) n (at_begin w) ≡ Going v
  pub there : slice_get v.clusters n ≡ Some c
  pub over : is_over time c ≡ true
  pub left : 0 < v.left

-- something holds of a cluster, by its number, whenever it has its boundary
abbrev pub OfClusters : Type 1
OfClusters = (number : ℕ) → ClusterAt → Type 0

module _ {K : Type 0} where
  -- of the boundaries of the first n clusters that have their turn in an instant
  abbrev pub OfFirst : FlatTablesOf → (time n : ℕ) → World K → OfClusters → Type 0
  OfFirst tables time n w P = (k : ℕ) (v : World K) (c : ClusterAt) → k < n
      → HasTurn tables time k w v c → P (k + 1) c

  -- of all boundaries that have their turn below a stop
  abbrev pub OfAll : PureTree → Flat → Rules K → World K → (stop : ℕ) → OfClusters → Type 0
  OfAll model flat rules start stop P = (time n : ℕ) (w : World K) → time < stop
      → history (engine model flat rules) 0 start time ≡ On w → is_due rules w time ≡ true
      → OfFirst flat.tables time n w P

  -- what is told of each of them is its answer, in an instant and below a stop
  abbrev pub AreFirstAnswers : PureTree → Flat → (time n : ℕ) → World K → Type 0
  AreFirstAnswers model flat time n w = OfFirst flat.tables time n w
      (λ number c. IsAnswer model flat number c (next_change c))

  abbrev pub AreAnswers : PureTree → Flat → Rules K → World K → (stop : ℕ) → Type 0
  AreAnswers model flat rules start stop = OfAll model flat rules start stop
      (λ number c. IsAnswer model flat number c (next_change c))
