-- One delta step, and the event part of an instant: delta steps until no process is triggered.
-- Source: IEEE 1666-2011, 4.2.1.2 to 4.2.1.5 (evaluation, update, delta and timed notification).
use Rattle.std.specs.List.{list_any}
use Rattle.std.specs.Ordering.{int_eq}
use Rattle.std.specs.Prelude.{◌≡◌, ◌≤◌, ℕ, zero, suc, ◌+◌, ◌-◌, Bool, false, ◌||◌, ◌&&◌, not, if◌then◌else◌, nat_eq, nat_lt, List, [], ◌∷◌, length, map, Option, Some, None, unwrap_or, slice_get, slice_index_or, slice_set}
use Rattle.tdf_events_queue.specs.Evaluation.{evaluated}
use Rattle.tdf_events_queue.specs.Sets.{count_on, is_on}
use Rattle.tdf_events_queue.specs.Times.{pending_time}
use Rattle.tdf_convert.specs.declared.writes.SignalWrite.{SignalWrite}
use Rattle.tdf_events.specs.Processes.{ran}
use Rattle.tdf_events.specs.Side.{SideOf, value_at}
use Rattle.tdf_expr.specs.Frames.{IsOfFormat}
use Rattle.tdf_fixed.specs.declared.format.Format.{Format}
use Rattle.tdf_fixed.specs.declared.raw.Raw.{Raw}
use Rattle.tdf_bind.specs.declared.model.Flat.{Flat}
use Rattle.tdf_lang_tree.specs.Pure.{PureTree}
use Rattle.tdf_bind_connections.specs.ProcessBlocks.{ProcessRowOf}

-- a flag for each process, numbered from `first`
unfoldable pub flags_from : (ℕ → ProcessRowOf → Bool) → (first : ℕ) → List ProcessRowOf → List Bool
flags_from test first [] = []
flags_from test first (row ∷ rows) = test first row ∷ flags_from test (first + 1) rows

-- evaluation: the triggered processes run in the order of their numbers
abbrev pub after_evaluation : PureTree → Flat → (time : ℕ) → SideOf → SideOf
after_evaluation model flat time s =
    evaluated (ran model flat time) s.triggered (length s.triggered) s

-- whether a signal has a waiting value that differs from its own
abbrev pub differs : Raw → Option Raw → Bool
differs value None = false
differs value (Some new) = not (int_eq value.num new.num && nat_eq value.frac new.frac)

abbrev pub signal_changes : SideOf → (signal : ℕ) → Bool
signal_changes s signal = differs (value_at s.values signal) (slice_index_or s.waiting signal None)

-- update: the values, each replaced by the one that waits for it
unfoldable pub updated : List Raw → List (Option Raw) → List Raw
updated [] waiting = []
updated (value ∷ values) [] = value ∷ values
updated (value ∷ values) (new ∷ waiting) = unwrap_or new value ∷ updated values waiting

-- delta notification: whether a process is sensitive to a signal that changes in the update, or to
-- an event with a delta notification
abbrev pub is_next : SideOf → ProcessRowOf → Bool
is_next s row =
    list_any (signal_changes s) row.signals || list_any (is_on s.notices.delta) row.events

-- update and delta notification
abbrev pub after_update : Flat → SideOf → SideOf
after_update flat s = record {
  values = updated s.values s.waiting;
  frames = s.frames;
  notices = record { times = s.notices.times; delta = map (λ on. false) s.notices.delta };
  triggered = flags_from (λ n row. is_next s row) 0 flat.tables.processes;
  waiting = map (λ value. None) s.waiting;
}

unfoldable pub delta_stepped : PureTree → Flat → (time : ℕ) → SideOf → SideOf
delta_stepped model flat time s = after_update flat (after_evaluation model flat time s)

-- a delta step takes one turn, and one for each process that runs
abbrev pub turns_of : SideOf → ℕ
turns_of s = count_on s.triggered + 1

abbrev pub is_idle : SideOf → Bool
is_idle s = nat_eq (count_on s.triggered) 0

-- delta steps until no process is triggered, within an allowance of turns, with what is left of it;
-- none where it doesn't suffice. Each step takes a turn, so that `fuel` above the allowance is
-- enough
unfoldable pub settled_by : (fuel : ℕ) → PureTree → Flat → (time : ℕ) → SideOf → (left : ℕ)
    → Option (SideOf × ℕ)
settled_by zero model flat time s left = None
settled_by (suc fuel) model flat time s left = if nat_lt left (turns_of s) then None
    else if is_idle (delta_stepped model flat time s)
    then Some (delta_stepped model flat time s, left - turns_of s)
    else settled_by fuel model flat time (delta_stepped model flat time s) (left - turns_of s)

abbrev pub settled : PureTree → Flat → (time : ℕ) → SideOf → (left : ℕ) → Option (SideOf × ℕ)
settled model flat time s left = settled_by (left + 1) model flat time s left

-- timed notification: whether one comes at this time
abbrev pub is_due : (time : ℕ) → Option ℕ → Bool
is_due time None = false
is_due time (Some pending) = nat_eq pending time

-- the notifications of a time are gone, and the processes that are sensitive to their events are
-- triggered
abbrev pub after_due : Flat → (time : ℕ) → SideOf → SideOf
after_due flat time s = record {
  values = s.values;
  frames = s.frames;
  notices = record {
    times = map (λ pending. if is_due time pending then None else pending) s.notices.times;
    delta = s.notices.delta;
  };
  triggered = flags_from (λ n row. is_on s.triggered n
      || list_any (λ event. is_due time (pending_time s.notices.times event)) row.events) 0
      flat.tables.processes;
  waiting = s.waiting;
}

-- nothing is pending for a time before this one
pub record IsNoneBefore (time : ℕ) (times : List (Option ℕ)) : Type 0 where
  pub none : (event pending : ℕ) → pending_time times event ≡ Some pending → time ≤ pending

-- the values that sinks write: each is for an event signal, and of its format
pub record AreWritesOf (formats : List Format) (writes : List SignalWrite) : Type 0 where
  pub each : (i : ℕ) (write : SignalWrite) → slice_get writes i ≡ Some write → (f : Format)
      × (slice_get formats write.signal ≡ Some f) × IsOfFormat f write.value

-- the values that sinks write wait
unfoldable pub waiting_with : List SignalWrite → List (Option Raw) → List (Option Raw)
waiting_with [] waiting = waiting
waiting_with (write ∷ writes) waiting =
    waiting_with writes (slice_set waiting write.signal (Some write.value))

abbrev pub begun : Flat → (time : ℕ) → List SignalWrite → SideOf → SideOf
begun flat time writes s =
    record (after_due flat time s) { waiting = waiting_with writes s.waiting }

-- the event part of an instant: where a sink writes or a process is triggered, delta steps follow
abbrev pub event_part : PureTree → Flat → (time : ℕ) → List SignalWrite → SideOf → (left : ℕ)
    → Option (SideOf × ℕ)
event_part model flat time writes s left =
    if nat_eq (length writes) 0 && is_idle (begun flat time writes s)
    then Some (begun flat time writes s, left)
    else settled model flat time (begun flat time writes s) left
