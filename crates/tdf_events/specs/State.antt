-- The event side between two instants as a snapshot has it, and the side that goes on from there.
-- Source: IEEE 1666-2011, 4.2.1 (scheduling) and 5.10.8 (notify and cancel).
use Rattle.std.specs.Prelude.{◌≡◌, ◌<◌, ◌≤◌, ◌+◌, ◌^◌, ℕ, ℤ, false, ◌&&◌, nat_eq, List, [], ◌∷◌}
use Rattle.std.specs.Prelude.{if◌then◌else◌, length, map, replicate, Option, None, Some, slice_get}
use Rattle.std.specs.List.{flat_map, range_with_len, zip}
use Rattle.tdf_bind.specs.declared.model.Flat.{Flat}
use Rattle.tdf_bind_connections.specs.ProcessBlocks.{BlockRowOf}
use Rattle.tdf_events_queue.specs.Times.{pending_time}
use Rattle.tdf_events.specs.Runnable.{signal_formats}
use Rattle.tdf_events.specs.Side.{SideOf}
use Rattle.tdf_expr.specs.Made.{CellsFit, start_rates}
use Rattle.tdf_expr.specs.Plans.{shape_written}
use Rattle.tdf_expr.specs.declared.checked.Checked.{Checked}
use Rattle.tdf_expr_semantics.specs.Fits.{NumbersFit}
use Rattle.tdf_expr_state.specs.State.{FrameState}
use Rattle.tdf_fixed.specs.Cast.{fraction_of}
use Rattle.tdf_fixed.specs.declared.format.Format.{Format}
use Rattle.tdf_fixed.specs.declared.raw.Raw.{Raw}
use Rattle.tdf_saved.specs.State.{KernelStateOf}
use Rattle.tdf_saved.specs.declared.state.Pending.{Pending}

-- ---- the state of an event side

-- the notification of an event, where it has one
abbrev pub notification_of : (event : ℕ) → Option ℕ → List Pending
notification_of event None = []
notification_of event (Some time) = record { event = event; time = time } ∷ []

-- the pending notifications, by event
abbrev pub notifications : List (Option ℕ) → List Pending
notifications times = flat_map (λ event. notification_of event (pending_time times event))
    (range_with_len 0 (length times))

-- the settled values, what each instance of a block of processes holds, and what is pending
abbrev pub kernel_state_of : SideOf → KernelStateOf
kernel_state_of side = record {
  values = map (λ value. value.num) side.values;
  blocks = map (λ frame. frame.cells) side.frames;
  pending = notifications side.notices.times;
}

-- ---- the states of a model at a time

-- a notification of one of so many events, to come at a time or after, within 10^18 counts
pub record IsPendingFrom (events time : ℕ) (p : Pending) : Type 0 where
  pub event : p.event < events
  pub from : time ≤ p.time
  pub until : p.time ≤ time + 10 ^ 18

-- each is such a notification, of a later event than the one before it
pub record ArePendingFrom (events time : ℕ) (list : List Pending) : Type 0 where
  pub each : (i : ℕ) (p : Pending) → slice_get list i ≡ Some p → IsPendingFrom events time p
  pub rising : (i : ℕ) (p q : Pending) → slice_get list i ≡ Some p
      → slice_get list (i + 1) ≡ Some q → p.event < q.event

-- the cells of each instance of a block of processes
pub record AreBlockCells (checked : Checked) (rows : List BlockRowOf) (blocks : List (List ℤ))
    : Type 0 where
  pub long : length blocks ≡ length rows
  pub each : (n : ℕ) (row : BlockRowOf) (nums : List ℤ) → slice_get rows n ≡ Some row
      → slice_get blocks n ≡ Some nums → CellsFit checked row.block nums

-- a state of the event side of a model at a time: each number is of its format; before the first
-- instant nothing is pending
pub record IsKernelState (flat : Flat) (time : ℕ) (s : KernelStateOf) : Type 0 where
  pub values : NumbersFit (map shape_written (signal_formats flat)) s.values
  pub blocks : AreBlockCells flat.checked flat.tables.blocks s.blocks
  pub pending : ArePendingFrom (length flat.tables.events) time s.pending
  pub first : time ≡ 0 → s.pending ≡ []

-- ---- the side that goes on from a state

-- a number as a value of a format
abbrev pub value_in : Format → ℤ → Raw
value_in format num = record { num = num; frac = fraction_of format }

-- when an event is to come, where a notification of it is pending; and so by event
unfoldable pub time_pending : List Pending → (event : ℕ) → Option ℕ
time_pending [] event = None
time_pending (p ∷ ps) event = if nat_eq p.event event then Some p.time else time_pending ps event

abbrev pub times_pending : (events : ℕ) → List Pending → List (Option ℕ)
times_pending events list = map (time_pending list) (range_with_len 0 events)

-- an instance of a block of processes with these cells; it has no rates but those declared
abbrev pub frame_with : Checked → BlockRowOf → List ℤ → FrameState
frame_with checked row nums = record { cells = nums; rates = start_rates checked row.block }

-- before the first instant the processes that run at the start are triggered, later none is
abbrev pub resumed_side : Flat → (time : ℕ) → KernelStateOf → SideOf
resumed_side flat time s = record {
  values = map (λ v. value_in v.0 v.1) (zip (signal_formats flat) s.values);
  frames = map (λ b. frame_with flat.checked b.0 b.1) (zip flat.tables.blocks s.blocks);
  notices = record {
    times = times_pending (length flat.tables.events) s.pending;
    delta = replicate (length flat.tables.events) false;
  };
  triggered = map (λ row. nat_eq time 0 && row.starts) flat.tables.processes;
  waiting = replicate (length flat.tables.de_signals) None;
}
