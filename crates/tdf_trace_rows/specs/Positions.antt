-- The samples of a signal in time: its positions by periods, and the cells that they give.
-- Source: own.
use Rattle.std.specs.Prelude.{◌≡◌, ℕ, ◌+◌, ◌-◌, ◌*◌, ◌/◌, ◌%◌, ◌<◌, ◌≤◌, Bool, false, ◌&&◌, nat_eq, nat_le, nat_lt, if◌then◌else◌, Option, Some, None, option_map, List, [], ◌∷◌, ◌++◌, length, slice_get}
use Rattle.tdf_fixed.specs.declared.raw.Raw.{Raw}

-- the positions of a signal in one period: the time of the first, the step to the next, how many
pub record Span : Type 0 where
  pub start : ℕ
  pub step : ℕ
  pub count : ℕ

abbrev pub span_of : (start step count : ℕ) → Span
span_of start step count = record { start = start; step = step; count = count }

abbrev pub span_end : Span → ℕ
span_end span = span.start + span.count * span.step

-- the place of a time in a span, if a position has it
abbrev pub place_in_span : Span → (time : ℕ) → Option ℕ
place_in_span span time = if nat_eq ((time - span.start) % span.step) 0
    then Some ((time - span.start) / span.step) else None

-- the position at a time, if there is one; the first has the number `first`
unfoldable pub position_at : (first : ℕ) → List Span → (time : ℕ) → Option ℕ
position_at first [] time = None
position_at first (p ∷ ps) time = if nat_le p.start time && nat_lt time (span_end p)
    then option_map (λ place. first + place) (place_in_span p time)
    else position_at (first + p.count) ps time

-- the time of a position, the first being number 0
unfoldable pub time_in_spans : List Span → (position : ℕ) → Option ℕ
time_in_spans [] position = None
time_in_spans (p ∷ ps) position = if nat_lt position p.count
    then Some (p.start + position * p.step)
    else time_in_spans ps (position - p.count)

-- spans one after the other, from a time on, each with a positive step
unfoldable pub AreChained : (from : ℕ) → List Span → Type 0
AreChained from [] = Unit {0}
AreChained from (p ∷ ps) = (p.start ≡ from) × (0 < p.step) × AreChained (span_end p) ps

-- how many positions there are
unfoldable pub count_of_spans : List Span → ℕ
count_of_spans [] = 0
count_of_spans (p ∷ ps) = p.count + count_of_spans ps

-- the cell of a time: none where no position has it, unknown where its position has no sample yet,
-- or the sample
abbrev pub cell_of : List Span → (samples : List Raw) → (time : ℕ) → Option (Option Raw)
cell_of spans samples time = option_map (slice_get samples) (position_at 0 spans time)

-- a position is this one
abbrev pub is_position : Option ℕ → (n : ℕ) → Bool
is_position None n = false
is_position (Some position) n = nat_eq position n

-- a sample more gives the cell of its position, and changes no other
abbrev pub OneSample : Type 0
OneSample = (spans : List Span) (samples : List Raw) (value : Raw) (time : ℕ)
    → cell_of spans (samples ++ value ∷ []) time
    ≡ (if is_position (position_at 0 spans time) (length samples) then Some (Some value)
    else cell_of spans samples time)

-- a span more changes nothing below its start
abbrev pub OneSpan : Type 0
OneSpan = (spans : List Span) (span : Span) (first time : ℕ) → time < span.start
    → position_at first (spans ++ span ∷ []) time ≡ position_at first spans time

-- the position at a position's time is this one, and none has a time below the first
abbrev pub TimeIsPosition : Type 0
TimeIsPosition = (from first : ℕ) (spans : List Span) (position time : ℕ)
    → AreChained from spans → time_in_spans spans position ≡ Some time
    → (from ≤ time) × (position_at first spans time ≡ Some (first + position))

-- a time with a position is the time of that position
abbrev pub PositionHasTime : Type 0
PositionHasTime = (from first : ℕ) (spans : List Span) (number time : ℕ)
    → AreChained from spans → position_at first spans time ≡ Some number
    → (position : ℕ) × (number ≡ first + position) × (time_in_spans spans position ≡ Some time)

-- each of so many positions has a time, and no other has
abbrev pub HasTimes : Type 0
HasTimes = (spans : List Span) (position : ℕ)
    → (position < count_of_spans spans → (time : ℕ) × (time_in_spans spans position ≡ Some time))
    × (count_of_spans spans ≤ position → time_in_spans spans position ≡ None)
