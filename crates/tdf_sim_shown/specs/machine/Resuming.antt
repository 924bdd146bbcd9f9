-- The signals go on with what the states of their columns have, one column after the other.
-- Source: own.
use Rattle.std.specs.List.{count_by}
use Rattle.std.specs.Prelude.{◌≡◌, ◌+◌, ◌-◌, ◌*◌, ◌/◌, ℕ, ℤ, zero, suc, None, Some, if◌then◌else◌, List, [], map, min, nat_lt, not, slice_get, slice_index}
use Rattle.tdf_bind.specs.declared.model.Flat.{Flat}
use Rattle.tdf_bind_connections.specs.declared.drivers.SignalRow.{SignalRow}
use Rattle.tdf_bind_connections.specs.declared.traces.TraceRow.{TraceRow}
use Rattle.tdf_sim_resumed.specs.Below.{ClusterOf}
use Rattle.tdf_fixed.specs.declared.format.Format.{Format}
use Rattle.tdf_fixed.specs.declared.raw.Raw.{Raw}
use Rattle.tdf_saved.specs.State.{ColumnStateOf}
use Rattle.tdf_saved.specs.declared.state.Stamp.{Stamp}
use Rattle.tdf_sim_history.specs.Columns.{span_after}
use Rattle.tdf_sim_shown.specs.Resumed.{skipped_in}
use Rattle.tdf_sim_traces.specs.Periods.{ClockAt, positions_in}
use Rattle.tdf_sim_traces.specs.Signals.{IsListed, driven_of}
use Rattle.tdf_sim_traces.specs.declared.signals.TracedSignal.{TracedSignal}
use Rattle.tdf_trace.specs.Starts.{IsResumed, TakesStart, stamps_after_first}
use Rattle.tdf_trace.specs.Tracked.{TrackedOf}
use Rattle.tdf_trace_rows.specs.declared.stamps.Stamps.{Stamps}
use Rattle.tdf_trace_states.specs.ColumnStates.{sample_in}

-- how many samples stand at a time or after it
abbrev pub given_from : (time : ℕ) → List Stamp → ℕ
given_from time samples = count_by (λ (x : Stamp). not (nat_lt x.time time)) samples

-- the stamps of the positions of a period without a sample, where those from a time on have so many
abbrev pub rest_in : (since step count rows given : ℕ) → Stamps
rest_in since step count rows given = stamps_after_first
    (span_after since step count (skipped_in since step count rows))
    (min given (count - skipped_in since step count rows))

-- the samples that wait, where none is left without
abbrev pub later_in : Format → List ℤ → (left : ℕ) → List Raw
later_in format nums left = if nat_lt 0 left then [] else map (sample_in format) nums

-- the stamps of a signal by a state
abbrev pub stamps_by : Flat → (since : ℕ) → ClusterOf → TracedSignal → ColumnStateOf → (rows : ℕ)
    → Stamps
stamps_by flat since c t state rows = rest_in since
    (c.period / positions_in flat.tables c t) (positions_in flat.tables c t) rows
    (given_from since state.samples)

-- a signal goes on with what the state of a column of it has
pub record TakesState (flat : Flat) (since : ℕ) (c : ClusterOf) (t : TracedSignal)
    (state : ColumnStateOf) (rows : ℕ) (old new : List TrackedOf) : Type 0 where
  pub signal : SignalRow
  pub there : slice_get flat.tables.signals t.signal ≡ Some signal
  pub took : TakesStart t.signal (stamps_by flat since c t state rows)
      (later_in signal.format state.later (stamps_by flat since c t state rows).left) old new
  pub resumed : IsResumed t.signal since (stamps_by flat since c t state rows)
      (later_in signal.format state.later (stamps_by flat since c t state rows).left) old new

-- that of a column does
pub record TakesSignal (flat : Flat) (clock : ClockAt) (states : List ColumnStateOf) (rows : ℕ)
    (column : ℕ) (row : TraceRow) (old new : List TrackedOf) : Type 0 where
  pub it : TracedSignal
  pub listed : IsListed flat it
  pub same : driven_of flat.tables row ≡ Some it.signal
  pub cluster : ClusterOf
  pub there : slice_get clock.clusters it.cluster ≡ Some cluster
  pub state : ColumnStateOf
  pub at : slice_get states column ≡ Some state
  pub takes : TakesState flat (slice_index clock.since it.cluster) cluster it state rows old new

-- a column without a signal that a port drives, or without a state, changes nothing
pub data TakesColumn (flat : Flat) (clock : ClockAt) (states : List ColumnStateOf) (rows : ℕ)
    (column : ℕ) (row : TraceRow) (old new : List TrackedOf) : Type 0 where
  Passed : driven_of flat.tables row ≡ None → new ≡ old
      → TakesColumn flat clock states rows column row old new
  Lost : slice_get states column ≡ None → new ≡ old
      → TakesColumn flat clock states rows column row old new
  Took : TakesSignal flat clock states rows column row old new
      → TakesColumn flat clock states rows column row old new

abbrev pub TakesAt : Flat → ClockAt → List ColumnStateOf → (rows column : ℕ)
    → (old new : List TrackedOf) → Type 0
TakesAt flat clock states rows column old new = (row : TraceRow)
    → slice_get flat.tables.traces column ≡ Some row
    → TakesColumn flat clock states rows column row old new

-- the first k columns, one after the other
unfoldable pub HaveTaken : Flat → ClockAt → List ColumnStateOf → (rows k : ℕ)
    → (old new : List TrackedOf) → Type 0
HaveTaken flat clock states rows zero old new = new ≡ old
HaveTaken flat clock states rows (suc k) old new = (mid : List TrackedOf)
    × HaveTaken flat clock states rows k old mid × TakesAt flat clock states rows k mid new
