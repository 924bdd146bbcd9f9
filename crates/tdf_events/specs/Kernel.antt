-- What a kernel holds: the event side of its model, and lists of who is sensitive to what.
-- Source: own.
use Rattle.std.specs.Prelude.{◌≡◌, ◌<◌, ◌⊎◌, ℕ, Bool, false, List, length, map, Option, Some, slice_get}
use Rattle.tdf_events_queue.specs.Lists.{list_at}
use Rattle.tdf_events_queue.specs.Sets.{SetOf, count_on}
use Rattle.tdf_events_queue.specs.Times.{IsNextTime}
use Rattle.tdf_events.specs.Notices.{NoticesOf}
use Rattle.tdf_events.specs.Processes.{owned_events}
use Rattle.tdf_events.specs.Runnable.{AreOfSignals, signal_formats}
use Rattle.tdf_events.specs.Side.{SideOf}
use Rattle.tdf_expr.specs.Frames.{FrameSeen, IsOfFormat, PortsSeen}
use Rattle.tdf_expr.specs.Made.{AreMadeFor}
use Rattle.tdf_fixed.specs.declared.format.Format.{Format}
use Rattle.tdf_fixed.specs.declared.raw.Raw.{Raw}
use Rattle.tdf_bind.specs.declared.model.Flat.{Flat}
use Rattle.tdf_bind_connections.specs.ProcessBlocks.{BlockRowOf, ProcessRowOf}

pub record KernelOf : Type 0 where
  pub values : List Raw
  pub frames : List FrameSeen
  pub ports : List PortsSeen
  pub notices : NoticesOf
  pub triggered : SetOf
  pub waiting : List (Option Raw)
  -- by signal and by event, the processes that are sensitive to it
  pub by_signal : List (List ℕ)
  pub by_event : List (List ℕ)
  -- by instance of a block of processes, its events
  pub own_events : List (List ℕ)
  -- an instant needed more turns than were left: no further call may be made
  pub spent : Bool

-- the event side
abbrev pub side_of : KernelOf → SideOf
side_of k = record {
  values = k.values;
  frames = map (λ frame. frame.state) k.frames;
  notices = k.notices;
  triggered = k.triggered.flags;
  waiting = k.waiting;
}

-- the lists name each process under each number that it is sensitive to, and no other
pub record AreSensitive (numbers : ProcessRowOf → List ℕ) (rows : List ProcessRowOf) (n : ℕ)
    (lists : List (List ℕ)) : Type 0 where
  pub all : (p j s : ℕ) (row : ProcessRowOf) → p < n → slice_get rows p ≡ Some row
      → slice_get (numbers row) j ≡ Some s → (i : ℕ) × (slice_get (list_at lists s) i ≡ Some p)
  pub only : (s i p : ℕ) → slice_get (list_at lists s) i ≡ Some p → (row : ProcessRowOf)
      × (slice_get rows p ≡ Some row) × (j : ℕ) × (slice_get (numbers row) j ≡ Some s)

-- what a kernel keeps of its model
pub record IsKernelOf (flat : Flat) (k : KernelOf) : Type 0 where
  pub going : k.spent ≡ false
  pub values : AreOfSignals (signal_formats flat) k.values
  pub frames : length k.frames ≡ length flat.tables.blocks
  pub ports : length k.ports ≡ length flat.tables.blocks
  pub made : (n : ℕ) (row : BlockRowOf) (f : FrameSeen) (p : PortsSeen)
      → slice_get flat.tables.blocks n ≡ Some row → slice_get k.frames n ≡ Some f
      → slice_get k.ports n ≡ Some p → AreMadeFor flat.checked row.block f p
  pub times : length k.notices.times ≡ length flat.tables.events
  pub triggered : length k.triggered.flags ≡ length flat.tables.processes
  pub waiting : length k.waiting ≡ length flat.tables.de_signals
  pub formats : (n : ℕ) (f : Format) (value : Raw) → slice_get (signal_formats flat) n ≡ Some f
      → slice_get k.waiting n ≡ Some (Some value) → IsOfFormat f value
  pub signal_lists : length k.by_signal ≡ length flat.tables.de_signals
  pub event_lists : length k.by_event ≡ length flat.tables.events
  pub by_signal : AreSensitive (λ row. row.signals) flat.tables.processes
      (length flat.tables.processes) k.by_signal
  pub by_event : AreSensitive (λ row. row.events) flat.tables.processes
      (length flat.tables.processes) k.by_event
  pub own_lists : length k.own_events ≡ length flat.tables.blocks
  pub own : (n : ℕ) → n < length flat.tables.blocks → list_at k.own_events n ≡ owned_events flat n

-- the next time at which the event side has something to do: 0 where a process is triggered, which
-- is so before the first instant alone, else the least pending time, and none where there is none
abbrev pub IsNextOf : SideOf → Option ℕ → Type 0
IsNextOf s time = ((0 < count_on s.triggered) × (time ≡ Some 0))
    ⊎ ((count_on s.triggered ≡ 0) × IsNextTime s.notices.times time)
