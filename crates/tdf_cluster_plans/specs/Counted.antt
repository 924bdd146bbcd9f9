-- How often actors fire in a plan.
-- Source: own.
use Rattle.std.specs.List.{count_by}
use Rattle.std.specs.Prelude.{ℕ, ◌≡◌, ◌<◌, List, length, nat_eq, slice_index}
use Rattle.tdf_schedule.specs.declared.entry.Entry.{Entry}

-- how many entries are of an actor
abbrev pub firings_of : List Entry → (actor : ℕ) → ℕ
firings_of entries actor = count_by (λ entry. nat_eq entry.actor actor) entries

-- the firings of the actors with these numbers among these entries
pub record AreCounted (numbers : List ℕ) (entries : List Entry) (counts : List ℕ) : Type 0 where
  pub long : length counts ≡ length numbers
  pub each : (i : ℕ) → i < length numbers
      → slice_index counts i ≡ firings_of entries (slice_index numbers i)
