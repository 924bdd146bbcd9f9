-- The periods of the first signals have begun.
-- Source: own.
use Rattle.std.specs.Prelude.{◌≡◌, ◌<◌, ◌≤◌, ℕ, true, List, [], ◌∷◌, ◌++◌, Some, length, slice_get}
use Rattle.tdf_bind_tables.specs.FlatTables.{FlatTablesOf}
use Rattle.tdf_trace.specs.Calls.{HasNoneLeft, Holds}
use Rattle.tdf_trace.specs.Tracked.{TrackedOf, TrackingOf, labels}
use Rattle.tdf_sim_refinement.specs.Below.{ClusterOf}
use Rattle.tdf_fixed.specs.declared.raw.Raw.{Raw}
use Rattle.tdf_trace.specs.Tracks.{IsChain}
use Rattle.tdf_trace_rows.specs.Positions.{Span}
use Rattle.tdf_trace_rows.specs.Rows.{Cells}
use Rattle.tdf_sim_traces.specs.Periods.{ClockAt, begins, span_in}
use Rattle.tdf_sim_traces.specs.declared.signals.TracedSignal.{TracedSignal}
use Rattle.tdf_trace.specs.Stands.{RowsSeen, TraceSeen}
use Rattle.tdf_bind_connections.specs.declared.traces.TraceRow.{TraceRow}

-- signal `signal` is one of the first k of these, and its period begins
pub record BeginsAmong (clock : ClockAt) (signals : List TracedSignal) (k signal : ℕ)
    : Type 0 where
  pub place : ℕ
  pub it : TracedSignal
  pub below : place < k
  pub there : slice_get signals place ≡ Some it
  pub begun : begins clock it ≡ true
  pub same : it.signal ≡ signal

-- the first k of these signals have a period more, if one begins; no other has
pub record HaveBegun (tables : FlatTablesOf) (clock : ClockAt) (signals : List TracedSignal)
    (k : ℕ)
    (before after : ℕ → List Span) : Type 0 where
  pub begun : (j : ℕ) (t : TracedSignal) (c : ClusterOf) → j < k → slice_get signals j ≡ Some t
      → begins clock t ≡ true → slice_get clock.clusters t.cluster ≡ Some c
      → after t.signal ≡ before t.signal ++ span_in tables clock.time c t ∷ []
  pub other : (signal : ℕ) → (BeginsAmong clock signals k signal → ⊥)
      → after signal ≡ before signal

-- what follows of the tracking and the rows
pub record BegunWith (tables : FlatTablesOf) (clock : ClockAt) (signals : List TracedSignal) (k : ℕ)
    (new : List TrackedOf) (after : RowsSeen) (traces : List TraceRow) (cells : Cells)
    (spans : ℕ → List Span) (samples : ℕ → List Raw) : Type 0 where
  pub now : ℕ → List Span
  pub have : HaveBegun tables clock signals k spans now
  pub holds : Holds traces cells now samples new after

-- the periods that begin follow those that there were
abbrev pub AreNext : FlatTablesOf → ClockAt → List TracedSignal → (spans : ℕ → List Span) → Type 0
AreNext tables clock signals spans =
    (j : ℕ) (t : TracedSignal) (c : ClusterOf) → slice_get signals j ≡ Some t
    → begins clock t ≡ true → slice_get clock.clusters t.cluster ≡ Some c
    → IsChain (spans t.signal ++ span_in tables clock.time c t ∷ [])

abbrev pub TakesBegun : FlatTablesOf → ClockAt → List TracedSignal → (k : ℕ)
    → (old new : List TrackedOf) → (before after : RowsSeen) → Type 0
TakesBegun tables clock signals k old new before after =
    (traces : List TraceRow) (cells : Cells) (spans : ℕ → List Span) (samples : ℕ → List Raw)
    → AreNext tables clock signals spans → Holds traces cells spans samples old before
    → BegunWith tables clock signals k new after traces cells spans samples

-- what is tracked of the first k signals has the time as the start of its period, if one begins;
-- nothing else has changed
pub record HaveStarted (clock : ClockAt) (signals : List TracedSignal) (k : ℕ)
    (old new : List TrackedOf) : Type 0 where
  pub labels : labels new ≡ labels old
  pub here : (place : ℕ) (u : TrackedOf) → slice_get new place ≡ Some u
      → BeginsAmong clock signals k u.signal → u.since ≡ clock.time
  -- and its next position isn't before that
  pub from : (place : ℕ) (u : TrackedOf) → slice_get new place ≡ Some u
      → BeginsAmong clock signals k u.signal → clock.time ≤ u.stamps.time
  pub others : (place : ℕ) (u : TrackedOf) → (BeginsAmong clock signals k u.signal → ⊥)
      → slice_get new place ≡ Some u → slice_get old place ≡ Some u

pub record IsBeginning (tables : FlatTablesOf) (clock : ClockAt) (signals : List TracedSignal)
    (k : ℕ) (old new : TrackingOf) (before after : TraceSeen) : Type 0 where
  pub took : TakesBegun tables clock signals k old.list new.list before.rows after.rows
  pub started : HaveStarted clock signals k old.list new.list
  pub none : (j : ℕ) (t : TracedSignal) → k ≤ j → slice_get signals j ≡ Some t
      → begins clock t ≡ true → HasNoneLeft t.signal new.list
  pub width : new.width ≡ old.width
  pub upto : after.rows.upto ≡ before.rows.upto
  pub stage : after.stage ≡ before.stage
  pub about : after.about ≡ before.about

-- those of a time after the start
pub data HasBegun (tables : FlatTablesOf) (clock : ClockAt) (signals : List TracedSignal)
    (old new : TrackingOf) (before after : TraceSeen) : Type 0 where
  First : clock.time ≡ 0 → new ≡ old → after ≡ before
      → HasBegun tables clock signals old new before after
  Later : 0 < clock.time
      → IsBeginning tables clock signals (length signals) old new before after
      → HasBegun tables clock signals old new before after
