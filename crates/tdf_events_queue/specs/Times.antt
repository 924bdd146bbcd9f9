-- Pending times by event: at most one for each. An earlier time replaces a pending one, a later one
-- doesn't.
-- Source: IEEE 1666-2011, 5.10.8 (notify and cancel).
use Rattle.std.specs.Prelude.{ℕ, ◌≤◌, ◌≡◌, Option, Some, None, List, min, slice_index_or}
use Rattle.tdf_events_queue.specs.declared.calendar.Pending.{Pending}

-- the pending time of an event
abbrev pub pending_time : List (Option ℕ) → ℕ → Option ℕ
pending_time times event = slice_index_or times event None

-- what stays of a pending time and a new one
abbrev pub earliest : Option ℕ → ℕ → ℕ
earliest None time = time
earliest (Some pending) time = min pending time

-- an event has this time, and none has an earlier one
pub record IsFirstPending (times : List (Option ℕ)) (event time : ℕ) : Type 0 where
  pub is : pending_time times event ≡ Some time
  pub least : (e t : ℕ) → pending_time times e ≡ Some t → time ≤ t

pub record IsNonePending (times : List (Option ℕ)) : Type 0 where
  pub none : (e : ℕ) → pending_time times e ≡ None

-- the first pending notification, none where nothing is pending
abbrev pub IsNextPending : List (Option ℕ) → Option Pending → Type 0
IsNextPending times None = IsNonePending times
IsNextPending times (Some pending) = IsFirstPending times pending.event pending.time

-- the least pending time, none where nothing is pending
abbrev pub IsNextTime : List (Option ℕ) → Option ℕ → Type 0
IsNextTime times None = IsNonePending times
IsNextTime times (Some time) = (event : ℕ) × IsFirstPending times event time
