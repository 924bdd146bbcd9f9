-- What later instants of a run leave as it is.
-- Source: own.
use Rattle.std.specs.Prelude.{◌≡◌, ◌≤◌, ℕ, List}
use Rattle.tdf_sim_instants.specs.Engine.{IsEngineOf}
use Rattle.tdf_sim_instants.specs.InstantLaws.{IsModelOf}
use Rattle.tdf_sim_instants.specs.declared.engine.Engine.{Engine}
use Rattle.tdf_events.specs.Side.{SideOf}
use Rattle.tdf_bind.specs.declared.model.Flat.{Flat}
use Rattle.tdf_sim_history.specs.Cells.{run_cells}
use Rattle.tdf_sim_history.specs.Telling.{world_told}
use Rattle.tdf_sim_history.specs.World.{Change, World}
use Rattle.tdf_sim_history.specs.History.{On, history}
use Rattle.tdf_sim_runs.specs.Ongoing.{AreToldTo, IsOngoing}
use Rattle.tdf_trace_rows.specs.Laws.{Agree}
use Rattle.tdf_lang_tree.specs.Pure.{PureTree}
use Rattle.tdf_sim_history.specs.Rules.{rules_of, world_engine}
use Rattle.tdf_sim_history.specs.WorldLaws.{IsSettled}

-- where the history goes on to a later end, told answers up to it, the cells of a run below a mark
-- stay, if each position below the mark has its sample
abbrev pub CellsStayBelow : Type 0
CellsStayBelow = (model : PureTree) (flat : Flat) (start last : World SideOf)
    → (ahead : List (List Change)) (from end mark left : ℕ) (e : Engine) → IsModelOf model flat
    → IsEngineOf flat e → (going : IsOngoing model flat start from e left)
    → AreToldTo model flat start from ahead → from ≤ end
    → history (world_engine model flat) 0 (world_told ahead start) end ≡ On last → mark ≤ from
    → IsSettled flat start.shown going.world mark
    → Agree (run_cells model flat (rules_of model flat) (world_told ahead start) from)
    (run_cells model flat (rules_of model flat) (world_told ahead start) end) mark
