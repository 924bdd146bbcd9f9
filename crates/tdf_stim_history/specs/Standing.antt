-- How a driver stands on the event side: after m runs its signals have their cells of the last row
-- that it drove, and it waits for its next event.
-- Source: own.
use Rattle.std.specs.Prelude.{◌≡◌, ◌<◌, ℕ, ◌-◌, true, false, length, Option, Some, None, if◌then◌else◌}
use Rattle.tdf_convert.specs.declared.writes.SignalWrite.{SignalWrite}
use Rattle.tdf_events.specs.Delta.{is_due}
use Rattle.tdf_events.specs.Side.{SideOf, value_at}
use Rattle.tdf_events_queue.specs.Sets.{is_on}
use Rattle.tdf_events_queue.specs.Times.{pending_time}
use Rattle.tdf_stim_history.specs.Driver.{CanDrive, DriverOf, waiting_at}

-- after m runs each of its signals has its cell of the last row, and no value waits for one
pub record IsDriverPart (d : DriverOf) (m : ℕ) (s : SideOf) : Type 0 where
  pub can : CanDrive d m s
  pub values : (signal : ℕ) → d.drives signal ≡ true → 0 < m
      → value_at s.values signal ≡ d.cell (m - 1) signal
  pub many : length s.waiting ≡ length s.values
  pub waiting : (signal : ℕ) → d.drives signal ≡ true → waiting_at s.waiting signal ≡ None

-- and it is not to run
pub record HasDriven (d : DriverOf) (m : ℕ) (s : SideOf) : Type 0 where
  pub part : IsDriverPart d m s
  pub off : is_on s.triggered d.process ≡ false

-- or it is to run
pub record DrivesNext (d : DriverOf) (m : ℕ) (s : SideOf) : Type 0 where
  pub part : IsDriverPart d m s
  pub on : is_on s.triggered d.process ≡ true

-- an event of the driver is due at a time, or none is
pub record HasOneDue (d : DriverOf) (time : ℕ) (s : SideOf) : Type 0 where
  pub event : ℕ
  pub own : d.owns event ≡ true
  pub due : pending_time s.notices.times event ≡ Some time

abbrev pub HasNoneDue : DriverOf → (time : ℕ) → SideOf → Type 0
HasNoneDue d time s =
    (event : ℕ) → d.owns event ≡ true → pending_time s.notices.times event ≡ Some time → ⊥

-- a write is not for a signal of the driver
abbrev pub WritesOther : DriverOf → SignalWrite → Type 0
WritesOther d write = d.drives write.signal ≡ false

-- what is left of a pending time after an instant at a time
abbrev pub left_after : (time : ℕ) → Option ℕ → Option ℕ
left_after time pending = if is_due time pending then None else pending

-- after m runs the driver isn't to run, and its events have these pending times
pub record StandsDriven (d : DriverOf) (m : ℕ) (pending : ℕ → Option ℕ) (s : SideOf) : Type 0 where
  pub driven : HasDriven d m s
  pub times : (event : ℕ) → d.owns event ≡ true
      → pending_time s.notices.times event ≡ pending event
