-- A run that goes on: all that runs is what there is before a time in the history that is told what
-- the boundaries so far led to.
-- Source: own.
use Rattle.std.specs.Prelude.{◌≡◌, ◌<◌, ◌≤◌, ◌+◌, ℕ, List, All, Some, slice_get}
use Rattle.tdf_sim_instants.specs.Engine.{HasBeenSpent, HasBeenStopped, HasHadInstant, IsEngineOf, IsReadyAt}
use Rattle.tdf_sim_instants.specs.InstantLaws.{HasPlansIn, IsModelOf, IsNow}
use Rattle.tdf_sim_instants.specs.Times.{IsNextDue}
use Rattle.tdf_sim_instants.specs.declared.engine.Engine.{Engine}
use Rattle.tdf_base.specs.declared.faults.Fault.{Fault}
use Rattle.tdf_events.specs.Kernel.{side_of}
use Rattle.tdf_events.specs.Side.{SideOf}
use Rattle.tdf_bind.specs.declared.model.Flat.{Flat}
use Rattle.tdf_sim_history.specs.Answers.{AreAnswers}
use Rattle.tdf_sim_history.specs.Instant.{RunFault}
use Rattle.tdf_sim_history.specs.Telling.{AreTold, world_told}
use Rattle.tdf_sim_history.specs.World.{Change, ClusterAt, World}
use Rattle.tdf_sim_history.specs.History.{HistoryState, On, Spent, Stopped, history}
use Rattle.tdf_sim_history.specs.TurnLaws.{IsOn}
use Rattle.tdf_streams.specs.Signals.{time_of_periods}
use Rattle.tdf_lang_tree.specs.Pure.{PureTree}
use Rattle.tdf_sim_history.specs.Continuing.{HasToldCounts, HasWholePlan}
use Rattle.tdf_sim_history.specs.Rules.{rules_of, world_engine}
use Rattle.tdf_sim_history.specs.TableLaws.{HaveAttributes}

-- the period of each cluster began when those before it were over
pub record AreTimed (w : World SideOf) : Type 0 where
  pub each : (n : ℕ) (h : ClusterAt) → slice_get w.clusters n ≡ Some h
      → h.since ≡ h.origin + time_of_periods h.old

-- what is told of the boundaries from a start on is their answers up to a time, and new plans come
-- with their counts
pub record AreToldTo (model : PureTree) (flat : Flat) (start : World SideOf) (time : ℕ)
    (ahead : List (List Change)) : Type 0 where
  pub answers : AreAnswers model flat (rules_of model flat) (world_told ahead start) time
  pub counts : All (All HasToldCounts) ahead

-- answers can be told from a start on: its clusters have attributes of theirs, and their plans
pub record CanBeTold (flat : Flat) (start : World SideOf) : Type 0 where
  pub attributes : HaveAttributes flat start
  pub whole : (n : ℕ) (c : ClusterAt) → slice_get start.clusters n ≡ Some c → HasWholePlan c

-- the history from a start goes on before a time, told the answers of its boundaries so far; all
-- that runs is what there is in it
pub record IsOngoing (model : PureTree) (flat : Flat) (start : World SideOf) (from : ℕ)
    (e : Engine) (left : ℕ) : Type 0 where
  pub can : CanBeTold flat start
  pub ahead : List (List Change)
  pub told : AreToldTo model flat start from ahead
  pub some : AreTold model flat (rules_of model flat) (world_told ahead start) from
  pub world : World SideOf
  pub on : IsOn (world_engine model flat) 0 (world_told ahead start) from world
  pub now : IsNow model flat world e left
  pub timed : AreTimed world

-- an instant at the next time leads to a run that goes on
abbrev pub InstantLeadsOn : Type 0
InstantLeadsOn = (model : PureTree) (flat : Flat) (start : World SideOf)
    → (from stop time left rest : ℕ) (e f : Engine) → IsModelOf model flat → IsEngineOf flat e
    → IsReadyAt from e → IsOngoing model flat start from e left → from ≤ stop
    → IsNextDue e.clusters.items e.since.items (side_of e.kernel) stop time → time < stop
    → HasHadInstant flat time e f left rest → IsOngoing model flat start (time + 1) f rest

-- the history from a start ends so at a stop, told the answers of its boundaries; its last world
-- has the plans that there are
pub record HistoryEnds (model : PureTree) (flat : Flat) (start : World SideOf) (stop : ℕ)
    (f : Engine) (ends : World SideOf → HistoryState (World SideOf) RunFault) : Type 0 where
  pub ahead : List (List Change)
  pub told : AreToldTo model flat start stop ahead
  pub last : World SideOf
  pub has : HasPlansIn last f
  pub is : history (world_engine model flat) 0 (world_told ahead start) stop ≡ ends last

-- where the turns are too few for it, the history is spent at that time
abbrev pub InstantSpends : Type 0
InstantSpends = (model : PureTree) (flat : Flat) (start : World SideOf)
    → (from stop time left : ℕ) (e f : Engine) → IsModelOf model flat → IsEngineOf flat e
    → IsReadyAt from e → IsOngoing model flat start from e left → from ≤ stop
    → IsNextDue e.clusters.items e.since.items (side_of e.kernel) stop time → time < stop
    → HasBeenSpent flat time e f left
    → HistoryEnds model flat start stop f (λ v. Spent time v)

-- where a boundary leads to a fault, the history stops with it at that time
abbrev pub InstantStops : Type 0
InstantStops = (model : PureTree) (flat : Flat) (start : World SideOf)
    → (from stop time left number : ℕ) (fault : Fault) (e f : Engine) → IsModelOf model flat
    → IsEngineOf flat e → IsReadyAt from e → IsOngoing model flat start from e left → from ≤ stop
    → IsNextDue e.clusters.items e.since.items (side_of e.kernel) stop time → time < stop
    → HasBeenStopped flat time number fault e f left
    → HistoryEnds model flat start stop f
    (λ v. Stopped time (record { cluster = number; fault = fault }) v)

-- where nothing is due before the stop, the history goes on up to it, told what it was
pub record HistoryGoesOn (model : PureTree) (flat : Flat) (start : World SideOf) (stop : ℕ)
    (ahead : List (List Change)) (world : World SideOf) : Type 0 where
  pub told : AreToldTo model flat start stop ahead
  pub is : history (world_engine model flat) 0 (world_told ahead start) stop ≡ On world

abbrev pub StopIsReached : Type 0
StopIsReached = (model : PureTree) (flat : Flat) (start : World SideOf)
    → (from stop left : ℕ) (e : Engine) → IsEngineOf flat e → IsReadyAt from e
    → (going : IsOngoing model flat start from e left) → from ≤ stop
    → IsNextDue e.clusters.items e.since.items (side_of e.kernel) stop stop
    → HistoryGoesOn model flat start stop going.ahead going.world
