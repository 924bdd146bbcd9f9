-- The first signals have got their initial samples.
-- Source: own.
use Rattle.std.specs.Prelude.{◌≡◌, ◌<◌, ℕ, List, ◌++◌, map, Some, slice_get}
use Rattle.tdf_bind_tables.specs.FlatTables.{FlatTablesOf}
use Rattle.tdf_trace.specs.Calls.{Holds}
use Rattle.tdf_trace.specs.Tracked.{AreSince, TrackedOf, TrackingOf, labels, sinces}
use Rattle.tdf_convert.specs.declared.outputs.Traced.{Traced}
use Rattle.tdf_fixed.specs.declared.raw.Raw.{Raw}
use Rattle.tdf_trace_rows.specs.Positions.{Span}
use Rattle.tdf_trace_rows.specs.Rows.{Cells}
use Rattle.tdf_sim_traces.specs.declared.signals.TracedSignal.{TracedSignal}
use Rattle.tdf_streams.specs.Cluster.{initial_samples}
use Rattle.tdf_trace.specs.Stands.{RowsSeen, TraceSeen}
use Rattle.tdf_bind_connections.specs.declared.traces.TraceRow.{TraceRow}

-- samples of one signal, as firings trace them
abbrev pub traced_with : (signal : ℕ) → List Raw → List Traced
traced_with signal values = map (λ value. record { signal = signal; value = value }) values

abbrev pub initials_of : FlatTablesOf → TracedSignal → List Raw
initials_of tables t = initial_samples tables (slice_get tables.ports t.port)

pub record IsAmong (signals : List TracedSignal) (k signal : ℕ) : Type 0 where
  pub place : ℕ
  pub it : TracedSignal
  pub below : place < k
  pub there : slice_get signals place ≡ Some it
  pub same : it.signal ≡ signal

-- the first k of these signals have their initial samples more; no other has
pub record HaveGiven (tables : FlatTablesOf) (signals : List TracedSignal) (k : ℕ)
    (before after : ℕ → List Raw) : Type 0 where
  pub given : (j : ℕ) (t : TracedSignal) → j < k → slice_get signals j ≡ Some t
      → after t.signal ≡ before t.signal ++ initials_of tables t
  pub other : (signal : ℕ) → (IsAmong signals k signal → ⊥) → after signal ≡ before signal

pub record GivenWith (tables : FlatTablesOf) (signals : List TracedSignal) (k : ℕ)
    (new : List TrackedOf) (after : RowsSeen) (traces : List TraceRow) (cells : Cells)
    (spans : ℕ → List Span) (samples : ℕ → List Raw) : Type 0 where
  pub now : ℕ → List Raw
  pub have : HaveGiven tables signals k samples now
  pub holds : Holds traces cells spans now new after

abbrev pub TakesInitials : FlatTablesOf → List TracedSignal → (k : ℕ) → (old new : List TrackedOf)
    → (before after : RowsSeen) → Type 0
TakesInitials tables signals k old new before after =
    (traces : List TraceRow) (cells : Cells) (spans : ℕ → List Span) (samples : ℕ → List Raw)
    → ((i j : ℕ) (t u : TracedSignal) → slice_get signals i ≡ Some t
    → slice_get signals j ≡ Some u → t.signal ≡ u.signal → i ≡ j)
    → Holds traces cells spans samples old before
    → GivenWith tables signals k new after traces cells spans samples

pub record IsGivingTo (tables : FlatTablesOf) (signals : List TracedSignal) (k : ℕ)
    (old new : TrackingOf) (before after : TraceSeen) : Type 0 where
  pub took : TakesInitials tables signals k old.list new.list before.rows after.rows
  pub labels : labels new.list ≡ labels old.list
  pub sinces : sinces new.list ≡ sinces old.list
  pub since : AreSince before.rows.upto new.list
  pub width : new.width ≡ old.width
  pub upto : after.rows.upto ≡ before.rows.upto
  pub stage : after.stage ≡ before.stage
  pub about : after.about ≡ before.about
