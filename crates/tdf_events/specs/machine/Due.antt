-- Timed notifications that come, one after the other.
-- Source: own.
use Rattle.std.specs.Prelude.{◌≡◌, ◌⊎◌, ℕ, Bool, true, false, List, Option, Some, None, length, slice_get}
use Rattle.tdf_events_queue.specs.Lists.{list_at}
use Rattle.tdf_events_queue.specs.Sets.{is_on}
use Rattle.tdf_events_queue.specs.Times.{pending_time}
use Rattle.tdf_events.specs.Delta.{is_due}
use Rattle.tdf_events.specs.machine.Updating.{IsSensitive}

-- whether the notification of an event comes at a time
abbrev pub comes : (time : ℕ) → List (Option ℕ) → ℕ → Bool
comes time times event = is_due time (pending_time times event)

-- an event whose notification comes, none where none does
abbrev pub IsDueEvent : List (Option ℕ) → (time : ℕ) → Option ℕ → Type 0
IsDueEvent times time None = (e : ℕ) → comes time times e ≡ false
IsDueEvent times time (Some event) = pending_time times event ≡ Some time

-- some notifications came: they are gone, and the processes that are sensitive to their events are
-- triggered
pub record HaveCome (lists : List (List ℕ)) (time : ℕ) (old now : List (Option ℕ))
    (before after : List Bool) : Type 0 where
  pub long : length now ≡ length old
  pub each : (e : ℕ) → (pending_time now e ≡ pending_time old e)
      ⊎ ((pending_time now e ≡ None) × (comes time old e ≡ true))
  pub same : length after ≡ length before
  pub kept : (p : ℕ) → is_on before p ≡ true → is_on after p ≡ true
  pub set : (e j p : ℕ) → comes time old e ≡ true → pending_time now e ≡ None
      → slice_get (list_at lists e) j ≡ Some p → is_on after p ≡ true
  pub only : (p : ℕ) → is_on after p ≡ true
      → (is_on before p ≡ true) ⊎ IsSensitive lists (comes time old) p
