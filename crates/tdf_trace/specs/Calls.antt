-- What the calls do to a tracking and to the rows of a trace.
-- Source: own.
use Rattle.std.specs.Prelude.{◌≡◌, ℕ, ◌<◌, ◌≤◌, false, nat_eq, if◌then◌else◌, Some, List, [], ◌∷◌, ◌++◌, length, slice_get}
use Rattle.tdf_trace.specs.Tracked.{TrackedOf, TrackingOf, labels, samples_traced}
use Rattle.tdf_trace.specs.Tracks.{AreTracked, IsChain, cells_by, known_by}
use Rattle.tdf_trace.specs.Traces.{IsTrackingOf, with_signal_samples}
use Rattle.tdf_convert.specs.declared.outputs.Traced.{Traced}
use Rattle.tdf_fixed.specs.declared.raw.Raw.{Raw}
use Rattle.tdf_trace_rows.specs.Laws.{Agree}
use Rattle.tdf_trace_rows.specs.Positions.{Span}
use Rattle.tdf_trace_rows.specs.Rows.{Cells}
use Rattle.tdf_trace.specs.Stands.{RowsSeen, Stands}
use Rattle.tdf_bind_connections.specs.declared.traces.TraceRow.{TraceRow}

-- a tracking is of these traces, and stands with the rows for these periods and samples: the rows
-- have the cells with a value, and else the cells given
pub record Holds (traces : List TraceRow) (cells : Cells) (spans : ℕ → List Span)
    (samples : ℕ → List Raw) (list : List TrackedOf) (rows : RowsSeen) : Type 0 where
  pub of : IsTrackingOf traces list
  pub tracked : AreTracked spans samples list
  pub stands : Stands (with_signal_samples traces cells (known_by spans samples)) rows

-- a signal with one period more
abbrev pub with_span : (ℕ → List Span) → (signal : ℕ) → Span → ℕ → List Span
with_span spans signal span s =
    if nat_eq s signal then spans s ++ span ∷ [] else spans s

-- each signal with the samples that came
abbrev pub with_traced : (ℕ → List Raw) → List Traced → ℕ → List Raw
with_traced samples list s = samples s ++ samples_traced s list

-- samples came
abbrev pub TakesSamples : List Traced → (old new : List TrackedOf) → (before after : RowsSeen)
    → Type 0
TakesSamples list old new before after =
    (traces : List TraceRow) (cells : Cells) (spans : ℕ → List Span) (samples : ℕ → List Raw)
    → Holds traces cells spans samples old before
    → Holds traces cells spans (with_traced samples list) new after

-- a period of a signal has begun
abbrev pub TakesPeriod : (signal : ℕ) → Span → (old new : List TrackedOf)
    → (before after : RowsSeen) → Type 0
TakesPeriod signal span old new before after =
    (traces : List TraceRow) (cells : Cells) (spans : ℕ → List Span) (samples : ℕ → List Raw)
    → IsChain (spans signal ++ span ∷ []) → Holds traces cells spans samples old before
    → Holds traces cells (with_span spans signal span) samples new after

-- rows that stand for cells that agree with these below an end
pub record StandBelow (cells : Cells) (end : ℕ) (rows : RowsSeen) : Type 0 where
  pub noted : Cells
  pub stand : Stands noted rows
  pub agree : Agree noted cells end

-- the positions below an end that have no sample are unknown
abbrev pub NotesRest : (end : ℕ) → List TrackedOf → (before after : RowsSeen) → Type 0
NotesRest end list before after =
    (traces : List TraceRow) (cells : Cells) (spans : ℕ → List Span) (samples : ℕ → List Raw)
    → Holds traces cells spans samples list before
    → StandBelow (with_signal_samples traces cells (cells_by spans samples)) end after

-- all positions of the last period of a signal have their times
abbrev pub HasNoneLeft : (signal : ℕ) → List TrackedOf → Type 0
HasNoneLeft signal list = (place : ℕ) (t : TrackedOf) → slice_get list place ≡ Some t
    → t.signal ≡ signal → t.stamps.left ≡ 0

-- a period of a signal began at this time, none of another did
pub record HasStarted (signal start : ℕ) (old new : List TrackedOf) : Type 0 where
  pub labels : labels new ≡ labels old
  pub here : (place : ℕ) (t : TrackedOf) → slice_get new place ≡ Some t
      → t.signal ≡ signal → t.since ≡ start
  pub from : (place : ℕ) (t : TrackedOf) → slice_get new place ≡ Some t
      → t.signal ≡ signal → start ≤ t.stamps.time
  pub others : (place : ℕ) (t : TrackedOf) → (t.signal ≡ signal → ⊥)
      → slice_get old place ≡ Some t → slice_get new place ≡ Some t

-- the signals of the traces of samples are numbers below this
abbrev pub AreBelow : (signals : ℕ) → List TraceRow → Type 0
AreBelow signals traces = (column : ℕ) (row : TraceRow) → slice_get traces column ≡ Some row
    → row.event ≡ false → row.signal < signals

-- a tracking before the first period
pub record IsFresh (traces : List TraceRow) (tracking : TrackingOf) : Type 0 where
  pub width : tracking.width ≡ length traces
  pub of : IsTrackingOf traces tracking.list
  pub tracked : AreTracked (λ signal. []) (λ signal. []) tracking.list
