-- A driver among the processes of a model: it is sensitive to events of its own alone, and it alone
-- writes its signals. In its run number m, from 0 on, it gives each of them its cell of row m, and
-- in the first it notifies each of its events.
-- Source: own.
use Rattle.std.specs.List.{list_any}
use Rattle.std.specs.Prelude.{◌≡◌, ◌≢◌, ◌<◌, ℕ, zero, suc, ◌+◌, Bool, true, false, nat_eq, List, [], length, Option, Some, None, slice_get, slice_index_or}
use Rattle.tdf_bind.specs.declared.model.Flat.{Flat}
use Rattle.tdf_bind_connections.specs.ProcessBlocks.{ProcessRowOf}
use Rattle.tdf_bind_tables.specs.declared.actors.ActorRow.{ActorRow}
use Rattle.tdf_events.specs.Processes.{frame_at, ran}
use Rattle.tdf_events.specs.Side.{SideOf, start_side}
use Rattle.tdf_events_queue.specs.Sets.{is_on}
use Rattle.tdf_events_queue.specs.Times.{pending_time}
use Rattle.tdf_expr_state.specs.State.{FrameState}
use Rattle.tdf_fixed.specs.declared.raw.Raw.{Raw}
use Rattle.tdf_graph.specs.declared.actors.Actor.TheVariants.{Sink}
use Rattle.tdf_lang_tree.specs.Pure.{PureTree}
use Rattle.tdf_sim_history.specs.Instant.{signal_of}

pub record DriverOf : Type 0 where
  -- its process, and the instance that has it
  pub process : ℕ
  pub owner : ℕ
  -- which signals it drives, and which events are its own
  pub drives : (signal : ℕ) → Bool
  pub owns : (event : ℕ) → Bool
  -- what its instance holds after so many runs
  pub held : (runs : ℕ) → FrameState
  -- for when its first run notifies an event
  pub due : (event : ℕ) → ℕ
  -- how many rows there are, the time of each, and the cells of each by signal
  pub rows : ℕ
  pub time : (row : ℕ) → ℕ
  pub cell : (row signal : ℕ) → Raw

-- the value that waits for a signal
abbrev pub waiting_at : List (Option Raw) → (signal : ℕ) → Option Raw
waiting_at waiting signal = slice_index_or waiting signal None

-- a process ran that isn't the driver's: all that is the driver's stays as it is
pub record KeepsPart (d : DriverOf) (s t : SideOf) : Type 0 where
  pub held : frame_at t.frames d.owner ≡ frame_at s.frames d.owner
  pub frames : length t.frames ≡ length s.frames
  pub times : (event : ℕ) → d.owns event ≡ true
      → pending_time t.notices.times event ≡ pending_time s.notices.times event
  pub events : length t.notices.times ≡ length s.notices.times
  pub delta : (event : ℕ) → d.owns event ≡ true
      → is_on t.notices.delta event ≡ is_on s.notices.delta event
  pub waiting : (signal : ℕ) → d.drives signal ≡ true
      → waiting_at t.waiting signal ≡ waiting_at s.waiting signal
  pub values : t.values ≡ s.values
  pub many : length t.waiting ≡ length s.waiting
  pub triggered : t.triggered ≡ s.triggered

-- the pending time of an event after run m of the driver, by that before: the first run notifies it
abbrev pub pending_after : DriverOf → (m event : ℕ) → (before : Option ℕ) → Option ℕ
pending_after d zero event before = Some (d.due event)
pending_after d (suc m) event before = before

-- the driver's process ran for the time m: its cells of row m wait
pub record Drove (d : DriverOf) (m : ℕ) (s t : SideOf) : Type 0 where
  pub held : frame_at t.frames d.owner ≡ d.held (m + 1)
  pub frames : length t.frames ≡ length s.frames
  pub times : (event : ℕ) → d.owns event ≡ true → pending_time t.notices.times event
      ≡ pending_after d m event (pending_time s.notices.times event)
  pub events : length t.notices.times ≡ length s.notices.times
  pub delta : (event : ℕ) → d.owns event ≡ true
      → is_on t.notices.delta event ≡ is_on s.notices.delta event
  pub waiting : (signal : ℕ) → d.drives signal ≡ true
      → waiting_at t.waiting signal ≡ Some (d.cell m signal)
  pub values : t.values ≡ s.values
  pub many : length t.waiting ≡ length s.waiting
  pub triggered : t.triggered ≡ s.triggered

-- after m runs: its instance holds what it does then, its signals and events are there, none of its
-- events has a delta notification, and before the first run none is pending
pub record CanDrive (d : DriverOf) (m : ℕ) (s : SideOf) : Type 0 where
  pub held : frame_at s.frames d.owner ≡ d.held m
  pub frame : d.owner < length s.frames
  pub signals : (signal : ℕ) → d.drives signal ≡ true → signal < length s.waiting
  pub events : (event : ℕ) → d.owns event ≡ true → event < length s.notices.times
  pub delta : (event : ℕ) → d.owns event ≡ true → is_on s.notices.delta event ≡ false
  pub first : m ≡ 0 → (event : ℕ) → d.owns event ≡ true
      → pending_time s.notices.times event ≡ None

-- how the processes of a model run: all others keep the driver's part, and its own drives while
-- there are rows, the first time at 0
pub record RunsDriver (d : DriverOf) (model : PureTree) (flat : Flat) : Type 0 where
  pub others : (time n : ℕ) (s : SideOf) → n ≢ d.process
      → KeepsPart d s (ran model flat time n s)
  pub own : (time m : ℕ) (s : SideOf) → m < d.rows → (m ≡ 0 → time ≡ 0) → CanDrive d m s
      → Drove d m s (ran model flat time d.process s)

-- its process is sensitive to all its events, to no other and to no signal
pub record IsDriverProcess (d : DriverOf) (processes : List ProcessRowOf) : Type 0 where
  pub row : ProcessRowOf
  pub at : slice_get processes d.process ≡ Some row
  pub signals : row.signals ≡ []
  pub events : (event : ℕ) → list_any (nat_eq event) row.events ≡ d.owns event

-- no sink writes one of its signals
abbrev pub NoSinkDrives : DriverOf → Flat → Type 0
NoSinkDrives d flat = (m : ℕ) (row : ActorRow) → slice_get flat.tables.actors m ≡ Some row
    → row.kind ≡ Sink → d.drives (signal_of flat.tables m) ≡ false

-- before the first instant its process is triggered, and its instance, its signals and its events
-- are there
pub record StartsDriver (d : DriverOf) (flat : Flat) : Type 0 where
  pub starts : is_on (start_side flat).triggered d.process ≡ true
  pub held : frame_at (start_side flat).frames d.owner ≡ d.held 0
  pub owner : d.owner < length flat.tables.blocks
  pub signals : (signal : ℕ) → d.drives signal ≡ true → signal < length flat.tables.de_signals
  pub events : (event : ℕ) → d.owns event ≡ true → event < length flat.tables.events

-- a driver in a model
pub record DrivesAlways (d : DriverOf) (model : PureTree) (flat : Flat) : Type 0 where
  pub runs : RunsDriver d model flat
  pub process : IsDriverProcess d flat.tables.processes
  pub sinks : NoSinkDrives d flat
  pub starts : StartsDriver d flat
