-- The text of the plans that an instant brings.
-- Source: own.
use Rattle.std.specs.List.{flat_map}
use Rattle.std.specs.Prelude.{ℕ, ◌+◌, List, [], Option, Some, None, option_map, slice_get}
use Rattle.tdf_sim_instants.specs.CrossingLaws.{rows_in}
use Rattle.tdf_sim_instants.specs.Below.{ClusterOf}
use Rattle.tdf_bind.specs.declared.model.Flat.{Flat}
use Rattle.tdf_dynamic_texts.specs.Plans.{PlanRows, plan_text}

abbrev pub rows_note : Flat → (time cluster : ℕ) → Option PlanRows → List ℕ
rows_note flat time cluster None = []
rows_note flat time cluster (Some rows) =
    plan_text flat.resolution flat.tables cluster time rows

-- the plans of the clusters at these places, in their order; clusters have numbers from 1 on
abbrev pub news_text : Flat → (time : ℕ) → List ClusterOf → (planned : List ℕ) → List ℕ
news_text flat time clusters planned = flat_map
    (λ n. rows_note flat time (n + 1) (option_map rows_in (slice_get clusters n))) planned
