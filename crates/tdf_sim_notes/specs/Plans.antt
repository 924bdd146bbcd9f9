-- The plans of all clusters at the start, as texts.
-- Source: own.
use Rattle.std.specs.List.{enumerate_from, flat_map}
use Rattle.std.specs.Prelude.{◌≡◌, ◌+◌, ℕ, List, All, length}
use Rattle.tdf_bind_tables.specs.Ranges.{AreInRange}
use Rattle.tdf_dynamic_first.specs.declared.first.First.{First}
use Rattle.tdf_bind.specs.declared.model.Flat.{Flat}
use Rattle.tdf_dynamic_texts.specs.Plans.{plan_text, rows_of_plan}

-- the first plan of the cluster at a place, from time 0 on; clusters have numbers from 1 on
abbrev pub first_text : Flat → (place : ℕ) → First → List ℕ
first_text flat place first =
    plan_text flat.resolution flat.tables (place + 1) 0 (rows_of_plan first.plan)

-- those of all clusters, in order
abbrev pub plans_of : Flat → List First → List ℕ
plans_of flat firsts =
    flat_map (λ first. first_text flat first.0 first.1) (enumerate_from 0 firsts)

-- plans that can be printed: the tables have numbers of rows, and each plan a bound for each edge
pub record ArePrintable (flat : Flat) (firsts : List First) : Type 0 where
  pub range : AreInRange flat.tables
  pub bounds : All (λ first. length first.plan.bounds.items ≡ length flat.tables.edges) firsts
