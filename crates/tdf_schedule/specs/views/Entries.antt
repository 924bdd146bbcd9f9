-- The entries of a table of keys, counted.
use Rattle.std.specs.Prelude.{ℕ, ◌<◌, ◌≡◌, Bool, false, ◌&&◌, ◌||◌, nat_eq, nat_lt, if◌then◌else◌, Some, List, All, length, slice_get}
use Rattle.std.specs.List.{count_by}
use Rattle.tdf_schedule.specs.Plan.{is_firing, is_earlier, key_in}
use Rattle.tdf_schedule.specs.declared.entry.Entry.{Entry}
use Rattle.tdf_schedule.specs.declared.key.Key.{Key}
use Rattle.tdf_schedule.specs.views.Table.{row_at}

abbrev pub one_if : Bool → ℕ
one_if test = if test then 1 else 0

-- the firings of actors below m, and the first a of m
abbrev pub IsCounted : List (List Key) → (m a : ℕ) → List Entry → Type 0
IsCounted table m a entries = (k b : ℕ) → count_by (is_firing k b) entries
    ≡ one_if (nat_lt k m && nat_lt b (length (row_at table k)) || nat_eq k m && nat_lt b a)

abbrev pub IsComplete : List (List Key) → List Entry → Type 0
IsComplete table entries = (k b : ℕ) → count_by (is_firing k b) entries
    ≡ one_if (nat_lt k (length table) && nat_lt b (length (row_at table k)))

abbrev pub HasOwnKeys : List (List Key) → List Entry → Type 0
HasOwnKeys table entries =
    All (λ x. slice_get (row_at table x.actor) x.index ≡ Some (key_in x)) entries

abbrev pub AreSorted : List Entry → Type 0
AreSorted entries = (i j : ℕ) (x y : Entry) → i < j → slice_get entries i ≡ Some x
    → slice_get entries j ≡ Some y → is_earlier y x ≡ false
