-- The cells of one signal in its columns.
-- Source: own.
use Rattle.std.specs.Prelude.{◌≡◌, ℕ, ◌+◌, ◌*◌, ◌^◌, ◌<◌, ◌≤◌, ◌&&◌, nat_eq, if◌then◌else◌, Option, Some, List, [], ◌∷◌, ◌++◌, drop, length, All}
use Rattle.tdf_trace.specs.Tracked.{TrackedOf, label}
use Rattle.tdf_trace.specs.Tracks.{IsChain, Tracks}
use Rattle.tdf_trace.specs.Traces.{is_among}
use Rattle.tdf_trace.specs.machine.Firsts.{first_cells, known_cells}
use Rattle.tdf_fixed.specs.declared.raw.Raw.{Raw}
use Rattle.tdf_trace_rows.specs.Positions.{Span, cell_of}
use Rattle.tdf_trace_rows.specs.Rows.{Cells}
use Rattle.tdf_trace_rows.specs.Stamping.{IsStamping}
use Rattle.tdf_trace_rows.specs.declared.stamps.Stamps.{Stamps}
use Rattle.tdf_trace.specs.Stands.{RowsSeen, Stands, TraceSeen}

-- columns of a trace with so many
abbrev pub AreColumns : (width : ℕ) → List ℕ → Type 0
AreColumns width columns = All (λ column. column < width) columns

-- values that can be written
abbrev pub HaveFewPlaces : List Raw → Type 0
HaveFewPlaces values = All (λ value. value.frac ≤ 120) values

-- cells, with one more in each of some columns
abbrev pub with_cells : List ℕ → (time : ℕ) → Option Raw → Cells → Cells
with_cells columns time value cells = record {
  columns = cells.columns;
  first = cells.first;
  at = λ c t. if is_among columns c && nat_eq time t then Some value else cells.at c t;
}

abbrev pub TakesCells : List ℕ → (time : ℕ) → Option Raw → (before after : RowsSeen) → Type 0
TakesCells columns time value before after =
    (cells : Cells) → Stands cells before → Stands (with_cells columns time value cells) after

-- cells, with those of a function of time in some columns
abbrev pub with_signal : List ℕ → Cells → (ℕ → Option (Option Raw)) → Cells
with_signal columns cells of = record {
  columns = cells.columns;
  first = cells.first;
  at = λ c t. if is_among columns c then of t else cells.at c t;
}

-- so many positions have their cells, and the samples after them wait
pub record IsAt (spans : List Span) (samples : List Raw) (n : ℕ) (cells : Cells) (t : TrackedOf)
    (rows : RowsSeen) : Type 0 where
  pub stamping : IsStamping spans n t.stamps
  pub many : n + length t.waiting ≡ length samples
  pub waiting : t.waiting ≡ drop n samples
  pub chained : IsChain spans
  pub stands : Stands (with_signal t.columns cells (first_cells spans samples n)) rows

-- what is kept of a signal stands with the rows for these periods and samples
pub record OneHolds (spans : List Span) (samples : List Raw) (cells : Cells) (t : TrackedOf)
    (rows : RowsSeen) : Type 0 where
  pub tracked : Tracks spans samples t
  pub stands : Stands (with_signal t.columns cells (known_cells spans samples)) rows

-- a sample came
abbrev pub TakesOne : Raw → (old new : TrackedOf) → (before after : RowsSeen) → Type 0
TakesOne value old new before after = (spans : List Span) (samples : List Raw) (cells : Cells)
    → OneHolds spans samples cells old before
    → OneHolds spans (samples ++ value ∷ []) cells new after

-- a period has begun
abbrev pub TakesOnePeriod : Span → (old new : TrackedOf) → (before after : RowsSeen) → Type 0
TakesOnePeriod span old new before after =
    (spans : List Span) (samples : List Raw) (cells : Cells) → IsChain (spans ++ span ∷ [])
    → OneHolds spans samples cells old before
    → OneHolds (spans ++ span ∷ []) samples cells new after

-- samples that waited got their times
abbrev pub CatchesUp : (old new : TrackedOf) → (before after : RowsSeen) → Type 0
CatchesUp old new before after =
    (spans : List Span) (samples : List Raw) (n : ℕ) (cells : Cells)
    → IsAt spans samples n cells old before → OneHolds spans samples cells new after

-- so far
pub record IsFurther (spans : List Span) (samples : List Raw) (cells : Cells) (t : TrackedOf)
    (rows : RowsSeen) : Type 0 where
  pub n : ℕ
  pub at : IsAt spans samples n cells t rows

abbrev pub GoesFurther : (old new : TrackedOf) → (before after : RowsSeen) → Type 0
GoesFurther old new before after =
    (spans : List Span) (samples : List Raw) (n : ℕ) (cells : Cells)
    → IsAt spans samples n cells old before → IsFurther spans samples cells new after

-- below an end the cells are those of all positions
pub record IsNotedBelow (end : ℕ) (spans : List Span) (samples : List Raw) (cells : Cells)
    (columns : List ℕ) (rows : RowsSeen) : Type 0 where
  pub of : ℕ → Option (Option Raw)
  pub stand : Stands (with_signal columns cells of) rows
  pub agree : (time : ℕ) → time < end → of time ≡ cell_of spans samples time

-- the positions below an end that have no sample are unknown
abbrev pub NotesOne : (end : ℕ) → TrackedOf → (before after : RowsSeen) → Type 0
NotesOne end t before after = (spans : List Span) (samples : List Raw) (cells : Cells)
    → OneHolds spans samples cells t before
    → IsNotedBelow end spans samples cells t.columns after

-- so many positions have their cells, where there are positions left all samples among them
pub record ClosedTo (spans : List Span) (samples : List Raw) (cells : Cells) (columns : List ℕ)
    (stamps : Stamps) (rows : RowsSeen) : Type 0 where
  pub n : ℕ
  pub stamping : IsStamping spans n stamps
  pub past : 0 < stamps.left → length samples ≤ n
  pub chained : IsChain spans
  pub stands : Stands (with_signal columns cells (first_cells spans samples n)) rows

abbrev pub ClosesTo : TrackedOf → Stamps → (before after : RowsSeen) → Type 0
ClosesTo t stamps before after = (spans : List Span) (samples : List Raw) (cells : Cells)
    → OneHolds spans samples cells t before
    → ClosedTo spans samples cells t.columns stamps after

-- some columns have their cell
pub record IsNoting (columns : List ℕ) (time : ℕ) (value : Option Raw) (old new : TraceSeen)
    : Type 0 where
  pub took : TakesCells columns time value old.rows new.rows
  pub upto : new.rows.upto ≡ old.rows.upto
  pub stage : new.stage ≡ old.stage
  pub about : new.about ≡ old.about

-- samples that waited get their times
pub record IsCatchingUp (t u : TrackedOf) (old new : TraceSeen) : Type 0 where
  pub further : GoesFurther t u old.rows new.rows
  pub label : label u ≡ label t
  pub since : u.since ≡ t.since
  pub time : t.stamps.time ≤ u.stamps.time
  pub upto : new.rows.upto ≡ old.rows.upto
  pub stage : new.stage ≡ old.stage
  pub about : new.about ≡ old.about

-- positions without a sample are noted
pub record IsClosing (t : TrackedOf) (stamps : Stamps) (old new : TraceSeen) : Type 0 where
  pub closes : ClosesTo t stamps old.rows new.rows
  pub later : t.stamps.time ≤ stamps.time
  pub fewer : stamps.left ≤ t.stamps.left
  pub small : stamps.time + stamps.left * stamps.step < 2 ^ 64
  pub upto : new.rows.upto ≡ old.rows.upto
  pub stage : new.stage ≡ old.stage
  pub about : new.about ≡ old.about
