-- The plans of a model as a text.
-- Source: own.
use Rattle.std.specs.List.{flat_map, range_with_len}
use Rattle.std.specs.Prelude.{◌+◌, ◌++◌, ℕ, List, [], length, map, Option, Some, None, slice_get}
use Rattle.tdf_base.specs.declared.resolution.Resolution.{Resolution}
use Rattle.tdf_bind_tables.specs.FlatTables.{FlatTablesOf}
use Rattle.tdf_dynamic_first.specs.declared.first.First.{First}
use Rattle.tdf_dynamic_plans.specs.Rates.{IsWired}
use Rattle.tdf_dynamic_texts.specs.Plans.{PlanRows, rows_of_plan, plan_text, fires_text}
use Rattle.tdf_sim.specs.Accepted.{ArePlans}
use Rattle.tdf_sim.specs.declared.sim.Sim.{Sim}

-- the plan of a cluster from time 0 on, with its firings
abbrev pub cluster_text : Resolution → FlatTablesOf → (cluster : ℕ) → Option PlanRows → List ℕ
cluster_text unit tables cluster None = []
cluster_text unit tables cluster (Some rows) =
    plan_text unit tables cluster 0 rows ++ fires_text unit tables rows

-- the plans of all clusters, in order
unfoldable pub clusters_text : Resolution → FlatTablesOf → List PlanRows → List ℕ
clusters_text unit tables plans =
    flat_map (λ k. cluster_text unit tables (k + 1) (slice_get plans k))
    (range_with_len 0 (length plans))

-- the plan of a cluster
abbrev pub plan_rows : First → PlanRows
plan_rows first = rows_of_plan first.plan

abbrev pub plans_text : Sim → List ℕ
plans_text sim = clusters_text sim.flat.resolution sim.flat.tables (map plan_rows sim.firsts.items)

-- a model whose plans can be printed
pub record IsPrintable (sim : Sim) : Type 0 where
  pub wired : IsWired sim.flat.tables
  pub plans : ArePlans sim.flat sim.firsts.items
