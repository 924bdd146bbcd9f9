-- A tracking that goes on inside a run.
-- Source: own.
use Rattle.std.specs.Prelude.{◌≡◌, ◌<◌, ◌≤◌, ◌+◌, ◌-◌, ◌*◌, ℕ, ℤ, true, false, nat_eq, if◌then◌else◌, Some, List, [], ◌∷◌, ◌++◌, drop, length, map, slice_get}
use Rattle.tdf_bind_connections.specs.declared.traces.TraceRow.{TraceRow}
use Rattle.tdf_fixed.specs.declared.format.Format.{Format}
use Rattle.tdf_fixed.specs.declared.raw.Raw.{Raw}
use Rattle.tdf_saved.specs.State.{ColumnStateOf}
use Rattle.tdf_saved.specs.declared.state.Stamp.{Stamp}
use Rattle.tdf_trace.specs.Calls.{Holds}
use Rattle.tdf_trace.specs.Stands.{RowsSeen, Stands}
use Rattle.tdf_trace.specs.States.{cells_of_states}
use Rattle.tdf_trace.specs.Tracked.{TrackedOf, labels}
use Rattle.tdf_trace.specs.Traces.{IsTrackingOf}
use Rattle.tdf_trace.specs.Tracks.{AreTracked, IsChain, Tracks}
use Rattle.tdf_trace.specs.declared.about.Variable.{Variable}
use Rattle.tdf_trace_rows.specs.Positions.{Span, count_of_spans, time_in_spans}
use Rattle.tdf_trace_rows.specs.Rows.{Cells}
use Rattle.tdf_trace_rows.specs.Stamping.{IsStamping}
use Rattle.tdf_trace_rows.specs.declared.stamps.Stamps.{Stamps}
use Rattle.tdf_trace_states.specs.ColumnStates.{sample_in}

-- the numbers of the samples of a signal that wait for a position; none where it isn't tracked
pub record IsLaterOf (signal : ℕ) (list : List TrackedOf) (nums : List ℤ) : Type 0 where
  pub here : (place : ℕ) (t : TrackedOf) → slice_get list place ≡ Some t → t.signal ≡ signal
      → nums ≡ map (λ (v : Raw). v.num) t.waiting
  pub none : ((place : ℕ) (t : TrackedOf) → slice_get list place ≡ Some t
      → t.signal ≡ signal → ⊥) → nums ≡ []

-- a signal goes on: in a period that began at a start, with these stamps, and with these samples
-- that wait; no other signal changes
pub record IsResumed (signal start : ℕ) (next : Stamps) (later : List Raw)
    (old new : List TrackedOf) : Type 0 where
  pub labels : labels new ≡ labels old
  pub since : (place : ℕ) (t : TrackedOf) → slice_get new place ≡ Some t
      → t.signal ≡ signal → t.since ≡ start
  pub stamps : (place : ℕ) (t : TrackedOf) → slice_get new place ≡ Some t
      → t.signal ≡ signal → t.stamps ≡ next
  pub waiting : (place : ℕ) (t : TrackedOf) → slice_get new place ≡ Some t
      → t.signal ≡ signal → t.waiting ≡ later
  pub others : (place : ℕ) (t : TrackedOf) → (t.signal ≡ signal → ⊥)
      → slice_get old place ≡ Some t → slice_get new place ≡ Some t

-- another value for one signal
abbrev pub with_one : {A : Type 0} → (ℕ → A) → (signal : ℕ) → A → ℕ → A
with_one of signal it s = if nat_eq s signal then it else of s

-- then it has any spans of which so many positions have their samples and the stamps are those of
-- the others, and these samples and the ones that wait
abbrev pub TakesStart : (signal : ℕ) → Stamps → (later : List Raw) → (old new : List TrackedOf)
    → Type 0
TakesStart signal stamps later old new =
    (spans : ℕ → List Span) (samples : ℕ → List Raw) (its : List Span) (held : List Raw)
    → IsChain its → IsStamping its (length held) stamps → AreTracked spans samples old
    → AreTracked (with_one spans signal its) (with_one samples signal (held ++ later)) new

-- the stamps of the positions of a last span but for the first of it
abbrev pub stamps_after_first : Span → (done : ℕ) → Stamps
stamps_after_first span done = record {
  time = span.start + done * span.step;
  step = span.step;
  left = span.count - done;
}

abbrev pub StampsAreLast : Type 0
StampsAreLast = (early : List Span) (span : Span) (done : ℕ) → done ≤ span.count
    → IsStamping (early ++ span ∷ []) (count_of_spans early + done) (stamps_after_first span done)

-- the samples that wait are those after the last position
abbrev pub WaitsForRest : Type 0
WaitsForRest = (spans : List Span) (samples : List Raw) (t : TrackedOf) → Tracks spans samples t
    → t.waiting ≡ drop (count_of_spans spans) samples

-- the samples of a state are those of the positions of a signal that have one, each at its time
pub record IsSampledBy (spans : List Span) (samples : List Raw) (format : Format)
    (s : ColumnStateOf) : Type 0 where
  pub all : (j : ℕ) → j < count_of_spans spans → j < length samples → j < length s.samples
  pub times : (j : ℕ) (x : Stamp) → slice_get s.samples j ≡ Some x
      → time_in_spans spans j ≡ Some x.time
  pub values : (j : ℕ) (x : Stamp) → slice_get s.samples j ≡ Some x
      → slice_get samples j ≡ Some (sample_in format x.num)

-- the states of the columns of samples are so for their signals
pub record AreSampledBy (traces : List TraceRow) (spans : ℕ → List Span) (samples : ℕ → List Raw)
    (variables : List Variable) (states : List ColumnStateOf) : Type 0 where
  pub long : length states ≡ length variables
  pub each : (column : ℕ) (row : TraceRow) (v : Variable) (s : ColumnStateOf)
      → slice_get traces column ≡ Some row → row.event ≡ false
      → slice_get variables column ≡ Some v → slice_get states column ≡ Some s
      → IsSampledBy (spans row.signal) (samples row.signal) v.format s

-- cells that differ at most in columns of samples
pub record AgreeOutside (traces : List TraceRow) (one other : Cells) : Type 0 where
  pub columns : one.columns ≡ other.columns
  pub first : (column : ℕ) → column < one.columns → one.first column ≡ other.first column
  pub cells : (column time : ℕ) → column < one.columns
      → ((row : TraceRow) → slice_get traces column ≡ Some row → row.event ≡ true)
      → one.at column time ≡ other.at column time

-- a tracking with these spans and samples stands with rows that go on from such states
abbrev pub ResumedHolds : Type 0
ResumedHolds = (traces : List TraceRow) (cells : Cells) (spans : ℕ → List Span)
    (samples : ℕ → List Raw) (list : List TrackedOf) (rows : RowsSeen)
    (variables : List Variable) (states : List ColumnStateOf)
    → IsTrackingOf traces list → AreTracked spans samples list
    → AreSampledBy traces spans samples variables states
    → AgreeOutside traces (cells_of_states variables states) cells
    → Stands (cells_of_states variables states) rows
    → Holds traces cells spans samples list rows
