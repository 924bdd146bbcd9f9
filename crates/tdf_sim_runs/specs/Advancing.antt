-- What an instant does to what is shown of a run.
-- Source: own.
use Rattle.std.specs.Prelude.{◌≡◌, ℕ, []}
use Rattle.tdf_sim_instants.specs.Engine.{HasHadInstant}
use Rattle.tdf_sim_instants.specs.InstantLaws.{InstantGoes, IsModelOf, IsNow}
use Rattle.tdf_sim_instants.specs.declared.engine.Engine.{Engine}
use Rattle.tdf_events.specs.Side.{SideOf}
use Rattle.tdf_bind.specs.declared.model.Flat.{Flat}
use Rattle.tdf_sim_history.specs.Telling.{world_told}
use Rattle.tdf_sim_history.specs.World.{World}
use Rattle.tdf_sim_shown.specs.Below.{HasAdvanced}
use Rattle.tdf_lang_tree.specs.Pure.{PureTree}

-- an instant that goes along with the history begins the periods that it has, and what its firings
-- trace are the next samples of the signals
abbrev pub InstantAdvances : Type 0
InstantAdvances = (model : PureTree) (flat : Flat) (time : ℕ) (w : World SideOf) (e f : Engine)
    → (left rest : ℕ) → IsModelOf model flat → IsNow model flat w e left
    → e.outputs.traced ≡ []
    → (had : HasHadInstant flat time e f left rest)
    → (goes : InstantGoes model flat time w e f left rest had)
    → HasAdvanced model flat time (world_told goes.crossing.told w) goes.world f.outputs.traced
