-- Plans as texts: one line for the cluster, one for each of its actors, one for each of its edges,
-- and one for each firing.
-- Source: own.
use Rattle.std.specs.Fmt.{decimal}
use Rattle.std.specs.List.{flat_map, range_with_len}
use Rattle.std.specs.Prelude.{ℕ, Bool, ◌/◌, ◌++◌, nat_eq, if◌then◌else◌, List, [], length, map, Option, Some, None, codes, slice_get, slice_index}
use Rattle.tdf_base.specs.declared.resolution.Resolution.{Resolution}
use Rattle.tdf_bind_tables.specs.Actors.{cluster_of}
use Rattle.tdf_bind_tables.specs.FlatTables.{FlatTablesOf}
use Rattle.tdf_bind_tables.specs.Ranges.{actor_path, edge_path}
use Rattle.tdf_cluster_plans.specs.Counted.{firings_of}
use Rattle.tdf_fixed.specs.Decimal.{seconds_text_at}
use Rattle.tdf_schedule.specs.declared.entry.Entry.{Entry}
use Rattle.tdf_schedule.specs.declared.entry.Plan.{Plan}
use Rattle.tdf_bind_connections.specs.declared.edges.EdgeRow.{EdgeRow}

abbrev pub line : List ℕ → List ℕ
line text = text ++ codes "\n"

-- `cluster C at TIME period TIME firings N`
unfoldable pub cluster_line : Resolution → (cluster time period firings : ℕ) → List ℕ
cluster_line unit cluster time period firings =
    line (codes "cluster " ++ decimal cluster ++ codes " at " ++ seconds_text_at unit time
    ++ codes " period " ++ seconds_text_at unit period ++ codes " firings " ++ decimal firings)

-- `actor PATH count Q step TIME`
unfoldable pub actor_line : Resolution → (path : List ℕ) → (count step : ℕ) → List ℕ
actor_line unit path count step =
    line (codes "actor " ++ path ++ codes " count " ++ decimal count ++ codes " step "
    ++ seconds_text_at unit step)

-- `edge PATH delay D bound B`
unfoldable pub edge_line : (path : List ℕ) → (delay bound : ℕ) → List ℕ
edge_line path delay bound =
    line (codes "edge " ++ path ++ codes " delay " ++ decimal delay ++ codes " bound "
    ++ decimal bound)

-- `fire OFFSET LEVEL PATH INDEX`
unfoldable pub fire_line : Resolution → (path : List ℕ) → Entry → List ℕ
fire_line unit path entry =
    line (codes "fire " ++ seconds_text_at unit entry.offset ++ codes " " ++ decimal entry.level
    ++ codes " " ++ path ++ codes " " ++ decimal entry.index)

-- what a plan says: its firings in order, the bound of each edge, and the period
pub record PlanRows : Type 0 where
  pub entries : List Entry
  pub bounds : List ℕ
  pub period : ℕ

abbrev pub rows_of_plan : Plan → PlanRows
rows_of_plan plan = record {
  entries = plan.entries.items;
  bounds = plan.bounds.items;
  period = plan.period;
}

abbrev pub is_in : FlatTablesOf → (cluster actor : ℕ) → Bool
is_in flat cluster actor = nat_eq (slice_index (map cluster_of flat.actors) actor) cluster

-- the line of an actor, if it is one of the cluster; its step is the period over its count
abbrev pub actor_text : Resolution → FlatTablesOf → PlanRows → (cluster actor : ℕ) → List ℕ
actor_text unit flat plan cluster actor =
    if is_in flat cluster actor
    then actor_line unit (actor_path flat actor) (firings_of plan.entries actor)
    (plan.period / firings_of plan.entries actor)
    else []

-- the line of an edge, if its writer is one of the cluster
abbrev pub edge_row_text : FlatTablesOf → PlanRows → (cluster edge : ℕ) → Option EdgeRow → List ℕ
edge_row_text flat plan cluster edge None = []
edge_row_text flat plan cluster edge (Some row) =
    if is_in flat cluster row.writer
    then edge_line (edge_path flat edge) row.initial (slice_index plan.bounds edge)
    else []

abbrev pub edge_text : FlatTablesOf → PlanRows → (cluster edge : ℕ) → List ℕ
edge_text flat plan cluster edge = edge_row_text flat plan cluster edge (slice_get flat.edges edge)

-- the plan of a cluster from a time on
unfoldable pub plan_text : Resolution → FlatTablesOf → (cluster time : ℕ) → PlanRows → List ℕ
plan_text unit flat cluster time plan =
    cluster_line unit cluster time plan.period (length plan.entries)
    ++ flat_map (actor_text unit flat plan cluster) (range_with_len 0 (length flat.actors))
    ++ flat_map (edge_text flat plan cluster) (range_with_len 0 (length flat.edges))

-- its firings, in order
unfoldable pub fires_text : Resolution → FlatTablesOf → PlanRows → List ℕ
fires_text unit flat plan =
    flat_map (λ entry. fire_line unit (actor_path flat entry.actor) entry) plan.entries

-- `accepted clusters N`
unfoldable pub accepted_line : ℕ → List ℕ
accepted_line clusters = line (codes "accepted" ++ codes " clusters " ++ decimal clusters)
