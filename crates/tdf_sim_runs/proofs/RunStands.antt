-- Below a mark that no period with positions left began before, the rows of a run that goes on stand for its cells.
use Rattle.std.proofs.Common.{◌≡◌, ◌∙◌, ℕ, ◌-◌, ◌≤◌, List, ap, subst, sym, arith}
use Rattle.tdf_trace.specs.Calls.{StandBelow}
use Rattle.tdf_trace.specs.Tracked.{AreSince}
use Rattle.tdf_sim_instants.specs.InstantLaws.{IsModelOf}
use Rattle.tdf_sim_instants.specs.declared.engine.Engine.{Engine}
use Rattle.tdf_events.specs.Side.{SideOf}
use Rattle.tdf_bind.specs.declared.model.Flat.{Flat}
use Rattle.tdf_sim_history.specs.Cells.{run_cells, world_before, world_of}
use Rattle.tdf_sim_history.specs.Telling.{world_told}
use Rattle.tdf_sim_history.specs.World.{World}
use Rattle.tdf_sim_history.specs.History.{history}
use Rattle.tdf_sim_runs.proofs.Staying.{steady}
use Rattle.tdf_sim_runs.specs.Ending.{ShownStandsBelow}
use Rattle.tdf_sim_runs.specs.Running.{IsRunning}
use Rattle.tdf_sim_shown.specs.Below.{IsShown, Shown}
use Rattle.tdf_lang_tree.specs.Pure.{PureTree}
use Rattle.tdf_sim_history.specs.WorldLaws.{AreSteady}
use Rattle.tdf_sim_history.specs.Rules.{rules_of, world_engine}

pub run_stands : ShownStandsBelow → (model : PureTree) (flat : Flat) (start : World SideOf) (from mark left : ℕ) (e : Engine) (s : Shown) (news : List ℕ) → IsModelOf model flat
    → (run : IsRunning model flat start from e left s news) → AreSince mark s.tracking.list → mark ≤ from
    → StandBelow (run_cells model flat (rules_of model flat) (world_told run.going.ahead start) from) mark s.trace.rows
run_stands stands model flat start from mark left e s news m run since low =
    let own = world_told run.going.ahead start in
    let z : from ≡ from - 0 = omega arith in
    let now : run.going.world ≡ world_before model flat (rules_of model flat) own from = sym (ap world_of (ap (history (world_engine model flat) 0 own) z ∙ run.going.on.on)) in
    stands model flat own from mark s m.is m.limits (subst (λ (w : World SideOf). IsShown model flat own from w s) now run.shown)
    (subst (λ (w : World SideOf). AreSteady model flat w) now (steady model flat run.going.world e left run.going.now)) since low
