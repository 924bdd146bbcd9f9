-- The columns of the traces of samples.
-- Source: own.
use Rattle.std.specs.List.{list_any}
use Rattle.std.specs.Prelude.{◌≡◌, ℕ, Bool, false, ◌&&◌, not, nat_eq, if◌then◌else◌, Option, Some, None, List, slice_get}
use Rattle.tdf_trace.specs.Tracked.{TrackedOf}
use Rattle.tdf_fixed.specs.declared.raw.Raw.{Raw}
use Rattle.tdf_trace_rows.specs.Rows.{Cells}
use Rattle.tdf_bind_connections.specs.declared.traces.TraceRow.{TraceRow}

-- a column's cell: that of the signal if its trace is one of samples, else another
abbrev pub sample_or : Option TraceRow → (of : ℕ → Option (Option Raw)) → Option (Option Raw)
    → Option (Option Raw)
sample_or None of other = other
sample_or (Some row) of other = if row.event then other else of row.signal

-- cells, with those of a function of signal and time in the columns of samples
abbrev pub with_signal_samples : List TraceRow → Cells → (ℕ → ℕ → Option (Option Raw)) → Cells
with_signal_samples traces cells of = record {
  columns = cells.columns;
  first = cells.first;
  at = λ column time. sample_or (slice_get traces column) (λ signal. of signal time)
      (cells.at column time);
}

-- a trace is one of the samples of a signal
abbrev pub shows_signal : Option TraceRow → (signal : ℕ) → Bool
shows_signal None signal = false
shows_signal (Some row) signal = not row.event && nat_eq row.signal signal

abbrev pub is_among : List ℕ → (column : ℕ) → Bool
is_among columns column = list_any (λ k. nat_eq k column) columns

-- there is what is kept of a signal
pub record IsTracked (list : List TrackedOf) (signal : ℕ) : Type 0 where
  pub place : ℕ
  pub it : TrackedOf
  pub there : slice_get list place ≡ Some it
  pub same : it.signal ≡ signal

-- each signal with a trace of samples is tracked, once, and with its columns
pub record IsTrackingOf (traces : List TraceRow) (list : List TrackedOf) : Type 0 where
  pub once : (i j : ℕ) (t u : TrackedOf) → slice_get list i ≡ Some t → slice_get list j ≡ Some u
      → t.signal ≡ u.signal → i ≡ j
  pub columns : (i : ℕ) (t : TrackedOf) → slice_get list i ≡ Some t → (column : ℕ)
      → is_among t.columns column ≡ shows_signal (slice_get traces column) t.signal
  pub all : (column : ℕ) (row : TraceRow) → slice_get traces column ≡ Some row
      → row.event ≡ false → IsTracked list row.signal
