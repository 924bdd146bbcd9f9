-- A cluster that goes on from a state.
-- Source: own.
use Rattle.std.specs.Prelude.{◌≡◌, ◌<◌, ◌≤◌, ℕ, false, List, [], Some, length, slice_get, slice_index, slice_index_or}
use Rattle.tdf_bind.specs.declared.model.Flat.{Flat}
use Rattle.tdf_dynamic_plans.specs.Attributes.{AttrsOf}
use Rattle.tdf_exec.specs.Cluster.{ClusterOf}
use Rattle.tdf_exec.specs.Crossing.{values_at}
use Rattle.tdf_exec.specs.Played.{play_of}
use Rattle.tdf_exec_parts.specs.Restored.{held_by_state}
use Rattle.tdf_exec_parts.specs.States.{IsStateUnder, due_before}
use Rattle.tdf_expr.specs.Checked.{IsCheckedOf}
use Rattle.tdf_fixed.specs.declared.raw.Raw.{Raw}
use Rattle.tdf_lang_tree.specs.Pure.{PureTree}
use Rattle.tdf_rings.specs.Carried.{ring_at}
use Rattle.tdf_saved.specs.State.{ClusterStateOf, ModuleStateOf}
use Rattle.tdf_schedule.specs.declared.entry.Plan.{Plan}
use Rattle.tdf_streams.specs.Cluster.{Start, cluster_net}
use Rattle.tdf_streams.specs.Periods.{PeriodRecord}
use Rattle.tdf_streams.specs.Stands.{Stands}

-- a start of the streams that a state says, by the rows of the table that it says: what its edges
-- and its modules hold; what modules of other clusters keep is not said
pub record IsStateStart (flat : Flat) (cluster : ℕ) (table : List AttrsOf) (s : ClusterStateOf)
    (start : Start) : Type 0 where
  pub lists : (e : ℕ) → e < length flat.tables.edges
      → slice_index_or start.lists e [] ≡ held_by_state flat.tables cluster s.edges e
  pub cells : (i : ℕ) (attrs : AttrsOf) (m : ModuleStateOf) → slice_get table i ≡ Some attrs
      → slice_get s.modules i ≡ Some m → slice_index_or start.cells attrs.number [] ≡ m.cells
  pub none : (m : ℕ) → length flat.tables.modules ≤ m → slice_index_or start.cells m [] ≡ []

-- a cluster inside the period that a state says: the entries before the time are done, its edges
-- and modules hold what the state says, and no firing was done since it was made
pub record IsAtState (flat : Flat) (cluster : ℕ) (s : ClusterStateOf) (time : ℕ) (c : ClusterOf)
    : Type 0 where
  pub plan : Plan
  pub is : IsStateUnder flat cluster s time c.table plan
  pub number_is : c.number ≡ cluster
  pub entries_are : c.entries ≡ plan.entries.items
  pub bounds_are : c.bounds ≡ plan.bounds.items
  pub period_is : c.period ≡ plan.period
  pub place_is : c.place ≡ due_before s.start time c.entries
  pub not_crossed : c.crossed ≡ false
  pub none_done : (m : ℕ) → slice_index c.positions m ≡ 0
  pub lists : (e : ℕ) → e < length flat.tables.edges
      → (ring_at c.rings e).samples ≡ held_by_state flat.tables cluster s.edges e
  pub cells : (i : ℕ) (attrs : AttrsOf) (m : ModuleStateOf) → slice_get c.table i ≡ Some attrs
      → slice_get s.modules i ≡ Some m → values_at c.runners attrs.number ≡ m.cells

-- it stands for the streams from each start that the state says, inside its first period, for each
-- model that the bodies are of
abbrev pub StandsAtState : Flat → ClusterStateOf → ClusterOf → Type 0
StandsAtState flat s c = (model : PureTree) (start : Start) (p : PeriodRecord)
    → (reads : ℕ → List Raw) → IsCheckedOf model flat.checked
    → IsStateStart flat c.number c.table s start
    → Stands (cluster_net model flat c.number start) [] p reads 0 (play_of c.place c)
