-- What holds of the event part of an instant and of the next time, so that instants can follow one
-- another; and of what goes on from a state.
-- Source: IEEE 1666-2011, 4.2.1.2 to 4.2.1.5.
use Rattle.std.specs.Prelude.{◌≡◌, ◌<◌, ◌≤◌, ℕ, ◌+◌, ◌^◌, true, false, List, Option, Some, None, slice_index_or}
use Rattle.tdf_events_queue.specs.Sets.{is_on}
use Rattle.tdf_events_queue.specs.Times.{IsNonePending}
use Rattle.tdf_convert.specs.declared.writes.SignalWrite.{SignalWrite}
use Rattle.tdf_events.specs.Delta.{IsNoneBefore, event_part, is_idle}
use Rattle.tdf_events.specs.Kernel.{IsNextOf}
use Rattle.tdf_events.specs.Side.{SideOf, start_side}
use Rattle.tdf_events.specs.State.{IsKernelState, kernel_state_of, resumed_side}
use Rattle.tdf_bind.specs.declared.model.Flat.{Flat}
use Rattle.tdf_lang_tree.specs.Pure.{PureTree}
use Rattle.tdf_saved.specs.State.{KernelStateOf}

-- no value waits for a signal, and no event has a delta notification
pub record HasNothingWaiting (s : SideOf) : Type 0 where
  pub values : (signal : ℕ) → slice_index_or s.waiting signal None ≡ None
  pub delta : (event : ℕ) → is_on s.notices.delta event ≡ false

-- no process is triggered after an event part
abbrev pub EndsIdle : Type 0
EndsIdle = (model : PureTree) (flat : Flat) (time left rest : ℕ) (writes : List SignalWrite)
    → (s after : SideOf) → event_part model flat time writes s left ≡ Some (after, rest)
    → is_idle after ≡ true

-- it doesn't grow the turns that are left
abbrev pub TurnsNeverGrow : Type 0
TurnsNeverGrow = (model : PureTree) (flat : Flat) (time left rest : ℕ) (writes : List SignalWrite)
    → (s after : SideOf) → event_part model flat time writes s left ≡ Some (after, rest)
    → rest ≤ left

-- where nothing waits before an event part, nothing waits after it
abbrev pub NothingStaysWaiting : Type 0
NothingStaysWaiting = (model : PureTree) (flat : Flat) (time left rest : ℕ)
    → (writes : List SignalWrite) (s after : SideOf) → HasNothingWaiting s
    → event_part model flat time writes s left ≡ Some (after, rest) → HasNothingWaiting after

-- where nothing is pending before the time of an instant, nothing is after its event part
abbrev pub NoneStaysBefore : Type 0
NoneStaysBefore = (model : PureTree) (flat : Flat) (time left rest : ℕ)
    → (writes : List SignalWrite) (s after : SideOf) → time < 2 ^ 64
    → IsNoneBefore time s.notices.times
    → event_part model flat time writes s left ≡ Some (after, rest)
    → IsNoneBefore time after.notices.times

-- and nothing at that time, where there is a later one
abbrev pub OnlyLaterStay : Type 0
OnlyLaterStay = (model : PureTree) (flat : Flat) (time left rest : ℕ)
    → (writes : List SignalWrite) (s after : SideOf) → time + 1 < 2 ^ 64
    → IsNoneBefore time s.notices.times
    → event_part model flat time writes s left ≡ Some (after, rest)
    → IsNoneBefore (time + 1) after.notices.times

-- so the next time is a later one
abbrev pub NextIsLater : Type 0
NextIsLater = (model : PureTree) (flat : Flat) (time left rest next : ℕ)
    → (writes : List SignalWrite) (s after : SideOf) → time + 1 < 2 ^ 64
    → IsNoneBefore time s.notices.times
    → event_part model flat time writes s left ≡ Some (after, rest)
    → IsNextOf after (Some next) → time < next

-- where no process is triggered, nothing is pending before the next time
abbrev pub NoneBeforeNext : Type 0
NoneBeforeNext = (s : SideOf) (time next : ℕ) → is_idle s ≡ true → IsNextOf s (Some next)
    → time ≤ next → IsNoneBefore time s.notices.times

-- where there is no next time, no process is triggered and nothing is pending
abbrev pub NoneWithoutNext : Type 0
NoneWithoutNext = (s : SideOf) → IsNextOf s None
    → (is_idle s ≡ true) × IsNonePending s.notices.times

-- before the first instant nothing is pending or waits
abbrev pub NoneAtStart : Type 0
NoneAtStart = (flat : Flat) → IsNonePending (start_side flat).notices.times
    × HasNothingWaiting (start_side flat)

-- where nothing is pending, nothing is before any time
abbrev pub NonePendingNoneBefore : Type 0
NonePendingNoneBefore = (times : List (Option ℕ)) (time : ℕ) → IsNonePending times
    → IsNoneBefore time times

-- what goes on from a state of a model has this state
abbrev pub StatesAreKept : Type 0
StatesAreKept = (flat : Flat) (time : ℕ) (s : KernelStateOf) → IsKernelState flat time s
    → kernel_state_of (resumed_side flat time s) ≡ s
