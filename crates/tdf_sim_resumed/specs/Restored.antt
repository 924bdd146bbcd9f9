-- Where the streams of a cluster begin that goes on from a state.
-- Source: own.
use Rattle.std.specs.List.{range_with_len}
use Rattle.std.specs.Prelude.{ℕ, ℤ, List, [], ◌∷◌, None, Option, Some, if◌then◌else◌, length, map, nat_eq, unwrap_or}
use Rattle.tdf_bind.specs.declared.model.Flat.{Flat}
use Rattle.tdf_dynamic_plans.specs.Attributes.{AttrsOf, attrs_at, rates_in}
use Rattle.tdf_sim_refinement.specs.Below.{held_by_state}
use Rattle.tdf_lang_tree.specs.Pure.{PureTree}
use Rattle.tdf_saved.specs.State.{ClusterStateOf, ModuleStateOf}
use Rattle.tdf_streams.specs.Bodies.{initialized}
use Rattle.tdf_streams.specs.Cluster.{Start}

-- what a list of lists has for a number, where the lists are those of some numbers, in their order
abbrev pub list_for : {X : Type 0} → (numbers : List ℕ) → List (List X) → ℕ → Option (List X)
list_for [] lists n = None
list_for (k ∷ numbers) [] n = None
list_for (k ∷ numbers) (list ∷ lists) n =
    if nat_eq k n then Some list else list_for numbers lists n

-- what a module of the cluster keeps; those of other clusters count as the text says them
abbrev pub kept_by_state : PureTree → Flat → List AttrsOf → ClusterStateOf → ℕ → List ℤ
kept_by_state model flat table s m =
    unwrap_or (list_for (map (λ (attrs : AttrsOf). attrs.number) table)
    (map (λ (x : ModuleStateOf). x.cells) s.modules) m)
    (initialized model flat m (rates_in (attrs_at table m)))

-- the start of streams that a state says
abbrev pub state_start : PureTree → Flat → (cluster : ℕ) → List AttrsOf → ClusterStateOf → Start
state_start model flat cluster table s = record {
  lists = map (held_by_state flat.tables cluster s.edges)
      (range_with_len 0 (length flat.tables.edges));
  cells = map (kept_by_state model flat table s)
      (range_with_len 0 (length flat.tables.modules));
}
