-- The states of clusters in a valid snapshot have the members of their modules and edges.
use Rattle.std.proofs.Common.{◌∙◌, ℕ, ◌<◌, ◌≤◌, List, slice_get, inl, inr, sym, arith}
use Rattle.std.proofs.lemmas.List.Elements.{All-weaker, recursion_from_All}
use Rattle.tdf_base.specs.Limits.{time_end}
use Rattle.tdf_bind.specs.Flat.{IsFlatOf}
use Rattle.tdf_bind.specs.declared.model.Flat.{Flat}
use Rattle.tdf_bind_invariants.specs.Formats.{IsSoundModel}
use Rattle.tdf_bind_invariants.specs.Limits.{AreWithinLimits}
use Rattle.tdf_cli_whole.proofs.Edged.{edges_fit}
use Rattle.tdf_cli_whole.proofs.Numbers.{nums_fit}
use Rattle.tdf_cli_whole.proofs.Rates.{rates_small}
use Rattle.tdf_cli_whole.proofs.Zips.{zip_map}
use Rattle.tdf_dynamic_first.specs.Text.{first_table}
use Rattle.tdf_dynamic_plans.specs.Attributes.{AttrsOf}
use Rattle.tdf_exec_layout.specs.Samples.{EdgesHaveFormats}
use Rattle.tdf_exec_parts.specs.States.{IsInPeriod, IsStateOfRow, IsStateUnder, due_before}
use Rattle.tdf_expr.specs.Made.{cell_formats}
use Rattle.tdf_lang_tree.specs.Pure.{PureTree}
use Rattle.tdf_save.specs.Members.{IsClusterFor, IsCount64, IsModuleFor}
use Rattle.tdf_save_members.specs.OfFlat.{cluster_members, module_members}
use Rattle.tdf_saved.specs.State.{ClusterStateOf, ModuleStateOf}
use Rattle.tdf_schedule.specs.declared.entry.Plan.{Plan}
use Rattle.tdf_sim_resumed.proofs.Api.{each_at}
use Rattle.tdf_streams.proofs.Api.{text_attributes}
use Rattle.tdf_streams.specs.Periods.{HasAllowedRates}
use Rattle.tdf_streams.specs.Places.{block_at}

-- a period began no later than a time in it
pub begun_by : (start time period : ℕ) → IsInPeriod start time period → start ≤ time
begun_by start time period inside = elim inside [
  | inl none ↦ (let a = none.0 in omega (arith, a))
  | inr some ↦ (let a = some.0 in omega (arith, a))
]

-- times of a run are numbers of 64 bits
pub time_small : (time : ℕ) → time < time_end → IsCount64 time
time_small time low = omega (arith, low)

module_fits : (flat : Flat) (attrs : AttrsOf) (m : ModuleStateOf) → AreWithinLimits flat → HasAllowedRates flat attrs → IsStateOfRow flat attrs m → IsModuleFor (module_members flat attrs) m
module_fits flat attrs m limits allowed is = record {
  rates = is.rates.long ∙ sym allowed.long;
  rates_fit = rates_small flat.checked limits.checked_is (slice_get flat.tables.modules attrs.number) m.rates is.rates;
  steps = is.long;
  steps_fit = recursion_from_All IsCount64 m.steps (All-weaker (λ step. step < time_end) IsCount64 time_small m.steps is.short);
  cells = nums_fit (cell_formats flat.checked (block_at flat.tables.modules attrs.number)) m.cells is.cells;
}

pub cluster_fits : EdgesHaveFormats → (model : PureTree) (flat : Flat) → IsSoundModel model → IsFlatOf model flat → AreWithinLimits flat
    → (cluster time : ℕ) (s : ClusterStateOf) (table : List AttrsOf) (plan : Plan) → IsStateUnder flat cluster s time table plan → time < time_end → IsClusterFor (cluster_members flat cluster) s
cluster_fits formats model flat sound is limits cluster time s table plan state low = record {
  start = time_small s.start (let b = begun_by s.start time plan.period state.inside in omega (arith, b, low));
  modules = zip_map IsModuleFor (module_members flat) (first_table flat cluster) s.modules (sym state.modules.long)
      (λ i attrs m at there. module_fits flat attrs m limits (each_at (HasAllowedRates flat) (first_table flat cluster) i attrs (text_attributes flat cluster limits).allowed at) (state.modules.each i attrs m at there));
  edges = edges_fit formats model flat sound is cluster table plan.entries.items (due_before s.start time plan.entries.items) s.edges state.edges;
}
