-- What an instant of all that runs is to the history.
-- Source: own.
use Rattle.std.specs.Prelude.{◌≡◌, ℕ, List, length}
use Rattle.tdf_sim_instants.specs.CrossingLaws.{AreToldAt, CrossesAlong, HavePlansOf, world_crossed}
use Rattle.tdf_sim_instants.specs.Engine.{HasBeenSpent, HasBeenStopped, HasHadInstant, IsEngineOf, IsReadyAt}
use Rattle.tdf_sim_instants.specs.declared.engine.Engine.{Engine}
use Rattle.tdf_base.specs.declared.faults.Fault.{Fault}
use Rattle.tdf_events.specs.Kernel.{side_of}
use Rattle.tdf_events.specs.Side.{SideOf}
use Rattle.tdf_expr.specs.Checked.{IsCheckedOf}
use Rattle.tdf_bind.specs.Flat.{IsFlatOf}
use Rattle.tdf_bind.specs.declared.model.Flat.{Flat}
use Rattle.tdf_bind_invariants.specs.Formats.{IsSoundModel}
use Rattle.tdf_sim_history.specs.Instant.{RunFault, instant}
use Rattle.tdf_sim_history.specs.Telling.{world_told}
use Rattle.tdf_sim_history.specs.World.{Change, World}
use Rattle.tdf_sim_history.specs.History.{Fault as Faulted, Going, Past, Step}
use Rattle.tdf_bind_invariants.specs.Limits.{AreWithinLimits}
use Rattle.tdf_sim_refinement.specs.Firings.{settled_values}
use Rattle.tdf_sim_refinement.specs.Pass.{AreAt, AreReady, PassesAlong, pass_at}
use Rattle.tdf_lang_tree.specs.Pure.{PureTree}
use Rattle.tdf_sim_history.specs.Rules.{rules_of}

-- a sound model, what was checked of it, and its flat model
pub record IsModelOf (model : PureTree) (flat : Flat) : Type 0 where
  pub sound : IsSoundModel model
  pub is : IsFlatOf model flat
  pub checked : IsCheckedOf model flat.checked
  pub limits : AreWithinLimits flat

-- all that runs is what there is in the history
pub record IsNow (model : PureTree) (flat : Flat) (w : World SideOf) (e : Engine) (left : ℕ)
    : Type 0 where
  pub at : AreAt model flat e.since.items w.clusters e.clusters.items
  pub side : side_of e.kernel ≡ w.events
  pub turns : w.left ≡ left

-- an instant goes along with the history, which is told what its boundaries lead to: the
-- boundaries, the firings, and what comes of it
pub record InstantGoes (model : PureTree) (flat : Flat) (time : ℕ) (w : World SideOf)
    (e f : Engine) (left rest : ℕ) (had : HasHadInstant flat time e f left rest) : Type 0 where
  pub crossing : CrossesAlong model flat time (length w.clusters) w had.crossed
  pub are_told : (n : ℕ) → AreToldAt model flat time n w crossing.told
  pub ready : AreReady flat.tables (pass_at time had.crossed.since f.inputs.items)
      (settled_values (rules_of model flat) (world_crossed w crossing.clusters had.crossed.left
      had.crossed.planned)) had.crossed.clusters
  pub passing : PassesAlong model flat (rules_of model flat)
      (pass_at time had.crossed.since f.inputs.items) (length w.clusters)
      (world_crossed w crossing.clusters had.crossed.left had.crossed.planned) had.run
      had.fired.firings.sent
  pub world : World SideOf
  pub same : world.clusters ≡ passing.clusters
  pub now : IsNow model flat world f rest
  pub planned : world.planned ≡ f.planned.items
  pub goes : instant model flat (rules_of model flat) time (world_told crossing.told w)
      ≡ Going world

abbrev pub InstantGoesAlong : Type 0
InstantGoesAlong = (model : PureTree) (flat : Flat) (time : ℕ) (w : World SideOf)
    → (e f : Engine) (left rest : ℕ) → IsModelOf model flat → IsEngineOf flat e
    → IsReadyAt time e → IsNow model flat w e left
    → (had : HasHadInstant flat time e f left rest)
    → InstantGoes model flat time w e f left rest had

-- the world in which a run ends has the plans that there are, and those that are new
pub record HasPlansIn (v : World SideOf) (f : Engine) : Type 0 where
  pub plans : HavePlansOf v.clusters f.clusters.items
  pub planned : v.planned ≡ f.planned.items

-- an instant ends the history, which is told what its boundaries lead to
pub record InstantEnds (model : PureTree) (flat : Flat) (time : ℕ) (w : World SideOf) (f : Engine)
    (ends : World SideOf → Step (World SideOf) RunFault) : Type 0 where
  pub told : List (List Change)
  pub are_told : (n : ℕ) → AreToldAt model flat time n w told
  pub last : World SideOf
  pub has : HasPlansIn last f
  pub goes : instant model flat (rules_of model flat) time (world_told told w) ≡ ends last

-- where the turns were too few, the history is spent
abbrev pub InstantEndsSpent : Type 0
InstantEndsSpent = (model : PureTree) (flat : Flat) (time : ℕ) (w : World SideOf)
    → (e f : Engine) (left : ℕ) → IsModelOf model flat → IsEngineOf flat e
    → IsReadyAt time e → IsNow model flat w e left → HasBeenSpent flat time e f left
    → InstantEnds model flat time w f (λ v. Past v)

-- where a boundary led to a fault, the history ends with it
abbrev pub InstantEndsStopped : Type 0
InstantEndsStopped = (model : PureTree) (flat : Flat) (time number : ℕ) (fault : Fault)
    → (w : World SideOf) (e f : Engine) (left : ℕ) → IsModelOf model flat → IsEngineOf flat e
    → IsReadyAt time e → IsNow model flat w e left
    → HasBeenStopped flat time number fault e f left
    → InstantEnds model flat time w f
    (λ v. Faulted (record { cluster = number; fault = fault }) v)
