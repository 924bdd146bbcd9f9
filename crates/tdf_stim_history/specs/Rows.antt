-- The rows of a driver over time: the first is at 0, their times rise, and for each but the first
-- there is an event that is due at its time.
-- Source: own.
use Rattle.std.specs.Prelude.{◌≡◌, ◌<◌, ◌≤◌, ℕ, true, List, Option, Some, None, nat_lt, if◌then◌else◌, slice_get}
use Rattle.tdf_events.specs.Side.{SideOf}
use Rattle.tdf_fixed.specs.declared.raw.Raw.{Raw}
use Rattle.tdf_stim_history.specs.Driver.{DriverOf}
use Rattle.tdf_stim_history.specs.Standing.{StandsDriven}

-- an event of the driver that is due at the time of a row
pub record IsEventOf (d : DriverOf) (row : ℕ) (event : ℕ) : Type 0 where
  pub own : d.owns event ≡ true
  pub due : d.due event ≡ d.time row

-- the row of an event
pub record HasOwnRow (d : DriverOf) (event : ℕ) : Type 0 where
  pub row : ℕ
  pub later : 0 < row
  pub within : row < d.rows
  pub due : d.due event ≡ d.time row

pub record HasRowTimes (d : DriverOf) : Type 0 where
  pub some : 0 < d.rows
  pub first : d.time 0 ≡ 0
  pub rising : (row later : ℕ) → row < later → later < d.rows → d.time row < d.time later
  pub event : (row : ℕ) → 0 < row → row < d.rows → (e : ℕ) × IsEventOf d row e
  pub row : (event : ℕ) → d.owns event ≡ true → HasOwnRow d event

-- m rows have times below a time
pub record AreRowsBefore (d : DriverOf) (time m : ℕ) : Type 0 where
  pub some : 0 < m
  pub few : m ≤ d.rows
  pub before : (row : ℕ) → row < m → d.time row < time
  pub after : (row : ℕ) → m ≤ row → row < d.rows → time ≤ d.time row

-- the pending time of an event before a time, when the driver ran once
abbrev pub pending_at : DriverOf → (time event : ℕ) → Option ℕ
pending_at d time event = if nat_lt (d.due event) time then None else Some (d.due event)

-- before the instant of a time: it drove all rows before it, and the events of the others are
-- pending
pub record IsDrivenTo (d : DriverOf) (time : ℕ) (s : SideOf) : Type 0 where
  pub m : ℕ
  pub rows : AreRowsBefore d time m
  pub stands : StandsDriven d m (pending_at d time) s

-- the last row at or before a time
pub record IsLastRow (d : DriverOf) (time row : ℕ) : Type 0 where
  pub within : row < d.rows
  pub at : d.time row ≤ time
  pub last : (later : ℕ) → row < later → later < d.rows → time < d.time later

-- each signal of the driver has its cell of the last row at or before a time
pub record ShowsRow (d : DriverOf) (values : List Raw) (time : ℕ) : Type 0 where
  pub row : ℕ
  pub last : IsLastRow d time row
  pub cells : (signal : ℕ) → d.drives signal ≡ true
      → slice_get values signal ≡ Some (d.cell row signal)
