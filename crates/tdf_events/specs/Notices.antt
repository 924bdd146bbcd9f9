-- Pending notifications: an event has at most one. A delta notification takes the place of a timed
-- one and lets later ones be ignored; a timed one gives way to an earlier time alone.
-- Source: IEEE 1666-2011, 5.10.8 (notify and cancel).
use Rattle.std.specs.Prelude.{ℕ, zero, suc, ◌+◌, ◌-◌, ◌^◌, Bool, true, if◌then◌else◌, nat_eq, min, List, Option, Some, None, slice_get, slice_index, slice_set}
use Rattle.tdf_events_queue.specs.Sets.{is_on}
use Rattle.tdf_events_queue.specs.Times.{earliest, pending_time}
use Rattle.tdf_expr_state.specs.State.{standing}

-- by event: the time of its timed notification, and whether it has a delta notification
pub record NoticesOf : Type 0 where
  pub times : List (Option ℕ)
  pub delta : List Bool

-- the time after another one; none lies past the greatest that a count of 64 bits holds, which no
-- run reaches
abbrev pub time_after : ℕ → ℕ → ℕ
time_after time after = min (time + after) (2 ^ 64 - 1)

abbrev pub with_delta : ℕ → NoticesOf → NoticesOf
with_delta event n =
    record { times = slice_set n.times event None; delta = slice_set n.delta event true }

abbrev pub with_time : ℕ → ℕ → NoticesOf → NoticesOf
with_time event time n = record {
  times = slice_set n.times event (Some (earliest (pending_time n.times event) time));
  delta = n.delta;
}

-- an event is notified at a time, to come after another; 0 is a delta notification
abbrev pub noticed_after : (time event after : ℕ) → NoticesOf → NoticesOf
noticed_after time event after n = if is_on n.delta event then n
    else if nat_eq after 0 then with_delta event n
    else with_time event (time_after time after) n

-- a process that ran asked for it, or didn't
abbrev pub event_noticed : (time event : ℕ) → Option ℕ → NoticesOf → NoticesOf
event_noticed time event None n = n
event_noticed time event (Some after) n = noticed_after time event after n

-- the first so many events of an instance, by what its process asked for
unfoldable pub noticed_first : (time : ℕ) → (events : List ℕ) → (asked : List (Option ℕ)) → ℕ
    → NoticesOf → NoticesOf
noticed_first time events asked zero n = n
noticed_first time events asked (suc i) n = event_noticed time (slice_index events i)
    (standing (slice_get asked i)) (noticed_first time events asked i n)
