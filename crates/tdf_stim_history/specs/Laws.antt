-- What a driver does in the event part of an instant, in an instant, and in a history.
-- Source: own; the event part after IEEE 1666-2011, 4.2.1.2 to 4.2.1.5.
use Rattle.std.specs.List.{AllByRecursion}
use Rattle.std.specs.Prelude.{◌≡◌, ◌<◌, ℕ, ◌+◌, false, List, Option, Some}
use Rattle.tdf_bind.specs.declared.model.Flat.{Flat}
use Rattle.tdf_convert.specs.declared.writes.SignalWrite.{SignalWrite}
use Rattle.tdf_dynamic_first.specs.declared.first.First.{First}
use Rattle.tdf_events.specs.Delta.{event_part}
use Rattle.tdf_events.specs.Side.{SideOf}
use Rattle.tdf_events_queue.specs.Times.{pending_time}
use Rattle.tdf_lang_tree.specs.Pure.{PureTree}
use Rattle.tdf_sim_history.specs.History.{Going, On, history}
use Rattle.tdf_sim_history.specs.Instant.{instant}
use Rattle.tdf_sim_history.specs.Rules.{is_side_due, rules_of, start_world, world_engine}
use Rattle.tdf_sim_history.specs.World.{Change, World}
use Rattle.tdf_stim_history.specs.Driver.{DriverOf, DrivesAlways, IsDriverProcess, NoSinkDrives, RunsDriver}
use Rattle.tdf_stim_history.specs.Rows.{HasRowTimes, ShowsRow}
use Rattle.tdf_stim_history.specs.Standing.{DrivesNext, HasDriven, HasNoneDue, HasOneDue, StandsDriven, WritesOther, left_after}

-- the pending times that an instant at a time leaves of those of a side
abbrev pub times_left : SideOf → (time event : ℕ) → Option ℕ
times_left s time event = left_after time (pending_time s.notices.times event)

-- an event part in which sinks write other signals, of a model with a driver
pub record DriverPart (d : DriverOf) (model : PureTree) (flat : Flat) (time : ℕ) (s after : SideOf)
    : Type 0 where
  pub runs : RunsDriver d model flat
  pub process : IsDriverProcess d flat.tables.processes
  pub writes : List SignalWrite
  pub other : AllByRecursion (WritesOther d) writes
  pub left : ℕ
  pub rest : ℕ
  pub is : event_part model flat time writes s left ≡ Some (after, rest)

-- where one of its events is due, it goes one row further; where none is, it stays as it is; and
-- where it is triggered before its first run, it drives the first row and notifies its events
pub record DrivesOn : Type 0 where
  pub due : (d : DriverOf) (model : PureTree) (flat : Flat) (time m : ℕ) (s after : SideOf)
      → DriverPart d model flat time s after → HasDriven d m s → HasOneDue d time s → 0 < m
      → m < d.rows → StandsDriven d (m + 1) (times_left s time) after
  pub none : (d : DriverOf) (model : PureTree) (flat : Flat) (time m : ℕ) (s after : SideOf)
      → DriverPart d model flat time s after → HasDriven d m s → HasNoneDue d time s
      → StandsDriven d m (times_left s time) after
  pub first : (d : DriverOf) (model : PureTree) (flat : Flat) (s after : SideOf)
      → DriverPart d model flat 0 s after → DrivesNext d 0 s → 0 < d.rows
      → StandsDriven d 1 (λ event. Some (d.due event)) after

-- an instant that goes on leaves the event side as it is, where nothing of it is due, or does its
-- event part, with what sinks wrote for other signals
pub data HasSideDone (d : DriverOf) (model : PureTree) (flat : Flat) (time : ℕ) (s after : SideOf)
    : Type 0 where
  Still : is_side_due s time ≡ false → after ≡ s → HasSideDone d model flat time s after
  Done : (writes : List SignalWrite) → AllByRecursion (WritesOther d) writes → (left rest : ℕ)
      → event_part model flat time writes s left ≡ Some (after, rest)
      → HasSideDone d model flat time s after

abbrev pub InstantsDoTheSide : Type 0
InstantsDoTheSide = (d : DriverOf) (model : PureTree) (flat : Flat) (time : ℕ) (w v : World SideOf)
    → NoSinkDrives d flat → instant model flat (rules_of model flat) time w ≡ Going v
    → HasSideDone d model flat time w.events v.events

-- in a run from the text's start each signal of a driver has, after the instant of each time up to
-- which the history goes on, its cell of the last row at or before that time
abbrev pub HistoryDrives : Type 0
HistoryDrives = (d : DriverOf) (model : PureTree) (flat : Flat) (firsts : List First)
    → (ahead : List (List Change)) (turns time : ℕ) (w : World SideOf) → DrivesAlways d model flat
    → HasRowTimes d → history (world_engine model flat) 0
    (start_world model flat firsts ahead turns) (time + 1) ≡ On w
    → ShowsRow d w.events.values time
