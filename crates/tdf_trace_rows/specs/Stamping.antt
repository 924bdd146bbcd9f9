-- Giving positions their times, one after the other and a period at a time.
-- Source: own.
use Rattle.std.specs.Prelude.{◌≡◌, ℕ, ◌+◌, ◌-◌, ◌*◌, ◌<◌, Some, List, [], ◌∷◌, ◌++◌}
use Rattle.tdf_trace_rows.specs.Positions.{Span, time_in_spans, count_of_spans}
use Rattle.tdf_trace_rows.specs.declared.stamps.Stamps.{Stamps}

-- so many positions of these spans have their times already, and the stamps are those of the others
pub record IsStamping (spans : List Span) (done : ℕ) (stamps : Stamps) : Type 0 where
  pub whole : count_of_spans spans ≡ done + stamps.left
  pub ahead : (i : ℕ) → i < stamps.left
      → time_in_spans spans (done + i) ≡ Some (stamps.time + i * stamps.step)

-- the next position has this time
abbrev pub GivesNext : Stamps → (time : ℕ) → Type 0
GivesNext stamps time = (spans : List Span) (done : ℕ) → IsStamping spans done stamps
    → time_in_spans spans done ≡ Some time

-- what is left after the next position
abbrev pub stamps_after : Stamps → Stamps
stamps_after stamps = record {
  time = stamps.time + stamps.step;
  step = stamps.step;
  left = stamps.left - 1;
}

-- one position more has its time
abbrev pub StampingGoesOn : (old new : Stamps) → Type 0
StampingGoesOn old new = (spans : List Span) (done : ℕ) → IsStamping spans done old
    → IsStamping spans (done + 1) new

-- a span more is to be stamped
abbrev pub TakesSpan : Span → (old new : Stamps) → Type 0
TakesSpan span old new = (spans : List Span) (done : ℕ) → IsStamping spans done old
    → IsStamping (spans ++ span ∷ []) done new
