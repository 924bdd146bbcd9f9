-- A column of a trace as contracts see it.
-- Source: own.
use Rattle.std.specs.Prelude.{ℕ, ◌≤◌, nat_eq, if◌then◌else◌, Option, Some, None, IfSome, List, [], ◌∷◌, map}
use Rattle.tdf_fixed.specs.declared.raw.Raw.{Raw}
use Rattle.tdf_trace.specs.declared.column.Held.{Held}

-- the cells that wait for their rows, what the last row shows, and what the row before it showed
pub record ColumnSeen : Type 0 where
  pub held : List Held
  pub before : Option Raw
  pub shown : Option Raw

-- the cell of a time among those that wait
unfoldable pub held_at : List Held → (time : ℕ) → Option (Option Raw)
held_at [] time = None
held_at (x ∷ xs) time = if nat_eq x.time time then Some x.value else held_at xs time

-- what a column shows can be written: a value has few enough bits after the point
abbrev pub HasFewPlaces : Option Raw → Type 0
HasFewPlaces value = IfSome value (λ v. v.frac ≤ 120)

-- what the columns show, and what they showed in the row before
abbrev pub shown_row : List ColumnSeen → List (Option Raw)
shown_row columns = map (λ column. column.shown) columns

abbrev pub before_row : List ColumnSeen → List (Option Raw)
before_row columns = map (λ column. column.before) columns
