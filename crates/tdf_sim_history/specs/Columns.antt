-- What the columns of a trace show from a start on: samples that stand at their times, and then the
-- positions of periods, where the start may lie inside the first.
-- Source: own.
use Rattle.std.specs.Prelude.{ℕ, ◌+◌, ◌-◌, ◌*◌, Option, None, Some, if◌then◌else◌, List, [], ◌∷◌, ◌++◌, map, nat_eq, slice_index_or}
use Rattle.tdf_fixed.specs.declared.raw.Raw.{Raw}
use Rattle.tdf_trace_rows.specs.Positions.{Span, span_of}

-- a sample that stands at a time
pub record Stamp : Type 0 where
  pub time : ℕ
  pub value : Raw

-- what a column shows from a start on: before all else `carry`; then samples at their times, before
-- the period of the start; then, from position `skipped` of that period on, the samples `ahead`
pub record ColumnStart : Type 0 where
  pub carry : Option Raw
  pub stamps : List Stamp
  pub skipped : ℕ
  pub ahead : List Raw

-- a start that shows nothing
abbrev pub no_start : ColumnStart
no_start = record { carry = None; stamps = []; skipped = 0; ahead = [] }

-- that of the column of this number
abbrev pub start_of : List ColumnStart → (column : ℕ) → ColumnStart
start_of shown column = slice_index_or shown column no_start

-- the samples that a start holds
unfoldable pub held_by : ColumnStart → List Raw
held_by s = map (λ (x : Stamp). x.value) s.stamps ++ s.ahead

-- the one that stands at a time, where there is one
abbrev pub stamp_at : List Stamp → (time : ℕ) → Option Raw
stamp_at [] time = None
stamp_at (x ∷ xs) time = if nat_eq x.time time then Some x.value else stamp_at xs time

-- the spans of samples that stand at their times, each up to the next, the last up to an end
unfoldable pub spans_to : List Stamp → (end : ℕ) → List Span
spans_to [] end = []
spans_to (x ∷ []) end = span_of x.time (end - x.time) 1 ∷ []
spans_to (x ∷ (y ∷ ys)) end = span_of x.time (y.time - x.time) 1 ∷ spans_to (y ∷ ys) end

-- the positions of a period but for the first n
abbrev pub span_after : (time step count n : ℕ) → Span
span_after time step count n = span_of (time + n * step) step (count - n)
