-- How far a call has come.
-- Source: own.
use Rattle.std.specs.Prelude.{◌≡◌, ℕ, ◌<◌, ◌≤◌, Option, Some, List, [], ◌∷◌, ◌++◌, length, slice_get}
use Rattle.tdf_trace.specs.Calls.{Holds, TakesSamples}
use Rattle.tdf_trace.specs.Tracked.{AreLater, AreSince, TrackedOf, TrackingOf, labels, sinces}
use Rattle.tdf_trace.specs.Tracks.{AreTracked, Tracks, cells_by, known_by}
use Rattle.tdf_trace.specs.Traces.{IsTrackingOf, with_signal_samples}
use Rattle.tdf_convert.specs.declared.outputs.Traced.{Traced}
use Rattle.tdf_fixed.specs.declared.raw.Raw.{Raw}
use Rattle.tdf_trace_rows.specs.Positions.{Span}
use Rattle.tdf_trace_rows.specs.Rows.{Cells}
use Rattle.tdf_trace.specs.Stands.{RowsSeen, Stands, TraceSeen}
use Rattle.tdf_bind_connections.specs.declared.traces.TraceRow.{TraceRow}

-- samples came
pub record IsGiving (list : List Traced) (old new : TrackingOf) (before after : TraceSeen)
    : Type 0 where
  pub took : TakesSamples list old.list new.list before.rows after.rows
  pub width : new.width ≡ old.width
  pub labels : labels new.list ≡ labels old.list
  pub sinces : sinces new.list ≡ sinces old.list
  pub later : AreLater old.list new.list
  pub since : AreSince before.rows.upto new.list
  pub upto : after.rows.upto ≡ before.rows.upto
  pub stage : after.stage ≡ before.stage
  pub about : after.about ≡ before.about

-- below an end the cells of the first signals are those of all positions
pub record AreNotedTo (count end : ℕ) (list : List TrackedOf) (traces : List TraceRow)
    (cells : Cells) (spans : ℕ → List Span) (samples : ℕ → List Raw) (rows : RowsSeen)
    : Type 0 where
  pub of : ℕ → ℕ → Option (Option Raw)
  pub stand : Stands (with_signal_samples traces cells of) rows
  pub noted : (place : ℕ) (t : TrackedOf) → place < count → slice_get list place ≡ Some t
      → (time : ℕ) → time < end → of t.signal time ≡ cells_by spans samples t.signal time
  pub others : (place : ℕ) (t : TrackedOf) → count ≤ place → slice_get list place ≡ Some t
      → (time : ℕ) → of t.signal time ≡ known_by spans samples t.signal time

abbrev pub NotesTo : (count end : ℕ) → List TrackedOf → (before after : RowsSeen) → Type 0
NotesTo count end list before after =
    (traces : List TraceRow) (cells : Cells) (spans : ℕ → List Span) (samples : ℕ → List Raw)
    → Holds traces cells spans samples list before
    → AreNotedTo count end list traces cells spans samples after

pub record IsNotingRest (count end : ℕ) (list : List TrackedOf) (before after : TraceSeen)
    : Type 0 where
  pub notes : NotesTo count end list before.rows after.rows
  pub upto : after.rows.upto ≡ before.rows.upto
  pub stage : after.stage ≡ before.stage
  pub about : after.about ≡ before.about

-- a trace more has its column
pub record AddsTrace (row : TraceRow) (column : ℕ) (old new : List TrackedOf) : Type 0 where
  pub of : (traces : List TraceRow) → length traces ≡ column → IsTrackingOf traces old
      → IsTrackingOf (traces ++ row ∷ []) new
  pub fresh : AreTracked (λ signal. []) (λ signal. []) old
      → AreTracked (λ signal. []) (λ signal. []) new

-- the first traces have their columns
pub record IsAdding (traces : List TraceRow) (bound : ℕ) (tracking : TrackingOf) : Type 0 where
  pub width : tracking.width ≡ length traces
  pub signals : tracking.signals ≡ bound
  pub of : IsTrackingOf traces tracking.list
  pub fresh : AreTracked (λ signal. []) (λ signal. []) tracking.list

-- a signal with one column, before its first period
pub record IsNewFor (signal column : ℕ) (t : TrackedOf) : Type 0 where
  pub signal_is : t.signal ≡ signal
  pub columns : t.columns ≡ column ∷ []
  pub tracks : Tracks [] [] t
