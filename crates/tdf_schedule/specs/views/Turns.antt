-- The turns of actors: lists in which each stands once for each of its firings, and the firings
-- that are laid out by such lists.
use Rattle.std.specs.Prelude.{ℕ, ◌+◌, ◌≡◌, nat_eq, nat_lt, if◌then◌else◌, List, length, sum, slice_index}
use Rattle.std.specs.List.{count_by, sum_by}
use Rattle.tdf_schedule.specs.Plan.{is_firing}
use Rattle.tdf_schedule.specs.declared.entry.Entry.{Entry}
use Rattle.tdf_schedule.specs.declared.key.Key.{Key}
use Rattle.tdf_schedule.specs.views.Entries.{HasOwnKeys, one_if}
use Rattle.tdf_schedule.specs.views.Table.{row_at}
use Rattle.tdf_schedule.specs.views.Work.{links_at}

-- how often an actor stands in a list
abbrev pub turns_in : List ℕ → ℕ → ℕ
turns_in list k = count_by (λ m. nat_eq m k) list

abbrev pub turns_of : List (List ℕ) → ℕ → ℕ
turns_of lists k = sum_by (λ list. turns_in list k) lists

-- each actor stands there as often as it fires
abbrev pub HasAllTurns : List (List Key) → List (List ℕ) → Type 0
HasAllTurns table lists = (k : ℕ) → turns_of lists k ≡ length (row_at table k)

-- how many of these keys have a level
abbrev pub at_level : ℕ → List Key → ℕ
at_level l keys = count_by (λ key. nat_eq key.level l) keys

-- an actor stands once more in the list of the level of each of these keys, all else is as before
pub record GainsTurns (m : ℕ) (keys : List Key) (old new : List (List ℕ)) : Type 0 where
  pub each : (l k : ℕ) → turns_in (links_at new l) k
      ≡ turns_in (links_at old l) k + (if nat_eq k m then at_level l keys else 0)
  pub all : (k : ℕ) → turns_of new k ≡ turns_of old k + (if nat_eq k m then length keys else 0)

-- each of the first n actors stands in the list of a level as often as it fires at that level
pub record AreByLevel (n : ℕ) (table : List (List Key)) (levels : List (List ℕ)) : Type 0 where
  pub each : (l k : ℕ) → turns_in (links_at levels l) k
      ≡ (if nat_lt k n then at_level l (row_at table k) else 0)
  pub all : (k : ℕ) → turns_of levels k ≡ (if nat_lt k n then length (row_at table k) else 0)

-- of each actor so many firings are laid out, from its first one on
pub record AreLaid (table : List (List Key)) (done : List ℕ) (entries : List Entry)
    : Type 0 where
  pub long : length done ≡ length table
  pub counted : (k b : ℕ) → count_by (is_firing k b) entries
      ≡ one_if (nat_lt b (slice_index done k))
  pub keys : HasOwnKeys table entries
  pub many : length entries ≡ sum done
