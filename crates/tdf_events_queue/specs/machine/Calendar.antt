-- The tree of pending notifications: its leaves are the events, and each inner node is the earlier
-- of the two nodes below it.
-- Source: own; a tournament tree, of Knuth, The Art of Computer Programming 3, 5.4.1.
use Rattle.std.specs.Prelude.{ℕ, ◌+◌, ◌*◌, ◌≤◌, ◌<◌, ◌≡◌, ◌⊎◌, Bool, true, false, Option, Some, None, option_map, if◌then◌else◌, nat_eq, nat_lt, List, length, slice_index_or, slice_set}
use Rattle.tdf_events_queue.specs.Times.{pending_time}
use Rattle.tdf_events_queue.specs.declared.calendar.Pending.{Pending}

-- the earlier of two, the first where none is
abbrev pub earlier_of : Option Pending → Option Pending → Option Pending
earlier_of None other = other
earlier_of (Some one) None = Some one
earlier_of (Some one) (Some other) =
    if nat_lt other.time one.time then Some other else Some one

abbrev pub is_of : (event : ℕ) → Option Pending → Bool
is_of event None = false
is_of event (Some pending) = nat_eq pending.event event

-- what never comes does after each time
abbrev pub is_after : (time : ℕ) → Option Pending → Bool
is_after time None = true
is_after time (Some pending) = nat_lt time pending.time

-- an event with a pending time, or none
abbrev pub leaf_of : (event : ℕ) → Option ℕ → Option Pending
leaf_of event pending = option_map (λ (time : ℕ). record { time = time; event = event }) pending

-- what stands at a place: those from the number of events on are the leaves
abbrev pub node_at : (nodes : List (Option Pending)) → (place : ℕ) → Option Pending
node_at nodes place = slice_index_or nodes place None

-- each event has its leaf
abbrev pub AreLeaves : (times : List (Option ℕ)) → (nodes : List (Option Pending)) → Type 0
AreLeaves times nodes = (event : ℕ) → event < length times
    → node_at nodes (length times + event) ≡ leaf_of event (pending_time times event)

-- one comes no later than another
pub record IsNoLater (one other : Option Pending) : Type 0 where
  pub least : (p : Pending) → other ≡ Some p → (q : Pending) × (one ≡ Some q) × (q.time ≤ p.time)

-- one is the earlier of two, or either where none is
pub record IsEarlierOf (left right one : Option Pending) : Type 0 where
  pub is : (one ≡ left) ⊎ (one ≡ right)
  pub left_least : IsNoLater one left
  pub right_least : IsNoLater one right

abbrev pub IsEarlierAt : (place : ℕ) → (nodes : List (Option Pending)) → Type 0
IsEarlierAt place nodes = IsEarlierOf (node_at nodes (2 * place)) (node_at nodes (2 * place + 1))
    (node_at nodes place)

-- each inner node is the earlier of the two below it, but for one place
abbrev pub AreEarlierBut : (but : ℕ) → (nodes : List (Option Pending)) → Type 0
AreEarlierBut but nodes = (place : ℕ) → 0 < place → 2 * place + 1 < length nodes
    → (place ≡ but → ⊥) → IsEarlierAt place nodes

-- each is; no inner node is at place 0
abbrev pub AreEarlier : (nodes : List (Option Pending)) → Type 0
AreEarlier nodes = AreEarlierBut 0 nodes

-- one node changed, and is the earlier of the two below it
pub record IsChanged (was : Option Pending) (at : ℕ) (nodes : List (Option Pending))
    : Type 0 where
  pub tree : AreEarlierBut at (slice_set nodes at was)
  pub own : 0 < at → 2 * at + 1 < length nodes → IsEarlierAt at nodes

-- one node changed to an earlier notification
pub record IsNoticed (new : Pending) (at : ℕ) (nodes : List (Option Pending)) : Type 0 where
  pub was : Option Pending
  pub changed : IsChanged was at nodes
  pub is : node_at nodes at ≡ Some new
  pub after : is_after new.time was ≡ true

-- one node changed from a notification of an event to one that is no earlier
pub record IsCancelled (event at : ℕ) (nodes : List (Option Pending)) : Type 0 where
  pub was : Option Pending
  pub changed : IsChanged was at nodes
  pub of_event : is_of event was ≡ true
  pub least : IsNoLater was (node_at nodes at)
