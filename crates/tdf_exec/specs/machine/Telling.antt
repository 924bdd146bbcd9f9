-- How the room for what a plan gives is found: entry after entry.
-- Source: own.
use Rattle.std.specs.Prelude.{◌≡◌, ◌+◌, ◌^◌, ◌<◌, ◌≤◌, ℕ, List, Option, Some, if◌then◌else◌, max, nat_eq, slice_get, take}
use Rattle.tdf_exec.specs.Gained.{sent_size, size_due, traced_size}
use Rattle.tdf_exec.specs.Telling.{IsMostOf}
use Rattle.tdf_exec.specs.declared.runners.Runner.{Runner}
use Rattle.tdf_exec.specs.declared.telling.Room.{Room}
use Rattle.tdf_exec.specs.declared.telling.Rooms.{Rooms}
use Rattle.tdf_schedule.specs.declared.entry.Entry.{Entry}

-- a number is above the greatest of 32 bits
pub data IsOver (sent traced : ℕ) : Type 0 where
  Sent : 2 ^ 32 ≤ sent → IsOver sent traced
  Traced : 2 ^ 32 ≤ traced → IsOver sent traced

abbrev pub room_of : (sent traced : ℕ) → Room
room_of sent traced = record { sent = sent; traced = traced }

-- what the entries before an entry gave at its offset
abbrev pub here_at : Rooms → (offset : ℕ) → Room
here_at rooms offset = if nat_eq rooms.offset offset then rooms.here else room_of 0 0

-- what they give with it
abbrev pub sent_with : List Runner → Entry → Rooms → ℕ
sent_with runners x rooms =
    (here_at rooms x.offset).sent + sent_size (slice_get runners x.actor)

abbrev pub traced_with : List Runner → Entry → Rooms → ℕ
traced_with runners x rooms =
    (here_at rooms x.offset).traced + traced_size (slice_get runners x.actor)

abbrev pub rooms_with : List Runner → Entry → Rooms → Rooms
rooms_with runners x rooms = record {
  offset = x.offset;
  here = room_of (sent_with runners x rooms) (traced_with runners x rooms);
  most = room_of (max rooms.most.sent (sent_with runners x rooms))
      (max rooms.most.traced (traced_with runners x rooms));
}

-- of the first i entries: what those of the last offset give, and the most of one
pub record AreCounted (size : Option Runner → ℕ) (runners : List Runner) (entries : List Entry)
    (i offset here most : ℕ) : Type 0 where
  pub here_is : here ≡ size_due size runners offset (take i entries)
  pub most_is : IsMostOf size runners (take i entries) most

pub record AreRooms (runners : List Runner) (entries : List Entry) (i : ℕ) (rooms : Rooms)
    : Type 0 where
  pub upto : (j : ℕ) (x : Entry) → j < i → slice_get entries j ≡ Some x → x.offset ≤ rooms.offset
  pub from : (j : ℕ) (x : Entry) → i ≤ j → slice_get entries j ≡ Some x → rooms.offset ≤ x.offset
  pub sent : AreCounted sent_size runners entries i rooms.offset rooms.here.sent rooms.most.sent
  pub traced : AreCounted traced_size runners entries i rooms.offset rooms.here.traced
      rooms.most.traced
