-- What the loop of instants is to the history.
-- Source: own.
use Rattle.std.specs.Prelude.{◌≤◌, ℕ}
use Rattle.tdf_sim_instants.specs.Engine.{IsEngineOf, IsReadyAt}
use Rattle.tdf_sim_instants.specs.InstantLaws.{IsNow}
use Rattle.tdf_sim_instants.specs.Times.{IsNextDue}
use Rattle.tdf_sim_instants.specs.declared.engine.Engine.{Engine}
use Rattle.tdf_events.specs.Kernel.{side_of}
use Rattle.tdf_events.specs.Side.{SideOf}
use Rattle.tdf_bind.specs.declared.model.Flat.{Flat}
use Rattle.tdf_sim_history.specs.World.{World}
use Rattle.tdf_sim_history.specs.TurnLaws.{IsNextTime}
use Rattle.tdf_lang_tree.specs.Pure.{PureTree}
use Rattle.tdf_sim_history.specs.Rules.{world_engine}

-- the time at which something is next due is the next one of the history
abbrev pub NextIsNext : Type 0
NextIsNext = (model : PureTree) (flat : Flat) (w : World SideOf) (e : Engine)
    → (left from stop time : ℕ) → IsEngineOf flat e → IsNow model flat w e left
    → IsReadyAt from e → from ≤ stop
    → IsNextDue e.clusters.items e.since.items (side_of e.kernel) stop time
    → IsNextTime (world_engine model flat) w from stop time
