-- The columns go on one after the other.
use Rattle.std.proofs.Common.{◌≡◌, ◌<◌, ◌+◌, ℕ, suc, List, None, Option, Some, length, slice_get, refl, subst, sym, arith}
use Rattle.std.proofs.lemmas.Option.{slice_get_within}
use Rattle.tdf_bind.specs.declared.model.Flat.{Flat}
use Rattle.tdf_bind_connections.specs.declared.drivers.SignalRow.{SignalRow}
use Rattle.tdf_sim_resumed.specs.Below.{ClusterOf}
use Rattle.tdf_fixed.specs.declared.raw.Raw.{Raw}
use Rattle.tdf_saved.specs.State.{ColumnStateOf}
use Rattle.tdf_sim_history.specs.Cells.{driver_of_row}
use Rattle.tdf_sim_shown.specs.Resumed.{HaveEventValues}
use Rattle.tdf_sim_shown.specs.machine.Resuming.{HaveTaken, TakesAt, TakesState, later_in, stamps_by}
use Rattle.tdf_sim_traces.specs.Events.{AreEventColumns}
use Rattle.tdf_sim_traces.specs.GoingOn.{HaveValues}
use Rattle.tdf_sim_traces.specs.Periods.{ClockAt}
use Rattle.tdf_sim_traces.specs.Signals.{IsListed}
use Rattle.tdf_sim_traces.specs.declared.events.EventColumn.{EventColumn}
use Rattle.tdf_sim_traces.specs.declared.signals.TracedSignal.{TracedSignal}
use Rattle.tdf_streams.proofs.Api.{none_some}
use Rattle.tdf_trace.specs.Starts.{IsResumed, TakesStart}
use Rattle.tdf_trace.specs.Tracked.{TrackedOf}
use Rattle.tdf_trace_rows.specs.declared.stamps.Stamps.{Stamps}

-- the stamps and samples by a state
pub state_taken : (flat : Flat) (since : ℕ) (c : ClusterOf) (t : TracedSignal) (state : ColumnStateOf) (rows : ℕ) (old new : List TrackedOf) (signal : SignalRow) (stamps : Stamps) (later : List Raw)
    → slice_get flat.tables.signals t.signal ≡ Some signal → stamps ≡ stamps_by flat since c t state rows → later ≡ later_in signal.format state.later stamps.left
    → TakesStart t.signal stamps later old new → IsResumed t.signal since stamps later old new → TakesState flat since c t state rows old new
state_taken flat since c t state rows old new signal stamps later there is waits took resumed = record {
  signal = signal;
  there = there;
  took = subst (λ (st : Stamps). TakesStart t.signal st (later_in signal.format state.later st.left) old new) is (subst (λ l. TakesStart t.signal stamps l old new) waits took);
  resumed = subst (λ (st : Stamps). IsResumed t.signal since st (later_in signal.format state.later st.left) old new) is (subst (λ l. IsResumed t.signal since stamps l old new) waits resumed);
}

-- a signal that a port drives is there
pub signal_inside : (flat : Flat) (t : TracedSignal) → IsListed flat t → t.signal < length flat.tables.signals
signal_inside flat t listed = subst (λ k. k < length flat.tables.signals) (sym listed.signal_is) (go (slice_get flat.tables.signals listed.port.signal) refl listed.drives.driver)
  where
    go : (o : Option SignalRow) → slice_get flat.tables.signals listed.port.signal ≡ o → driver_of_row o ≡ Some t.port → listed.port.signal < length flat.tables.signals
    go None at is = none_some t.port is
    go (Some signal) at is = slice_get_within flat.tables.signals listed.port.signal signal at

-- columns of events have values where their signals have
pub have_values : (flat : Flat) (was values : List Raw) (events : List EventColumn) → AreEventColumns flat.tables.traces was events → HaveEventValues flat.tables.traces values → HaveValues events values
have_values flat was values events are have k e at =
    let y = are.are k e at in subst (λ n. n < length values) (sym y.signal_is) (have e.column y.row y.there y.event)

pub none_taken : (flat : Flat) (clock : ClockAt) (states : List ColumnStateOf) (rows : ℕ) (list : List TrackedOf) → HaveTaken flat clock states rows 0 list list
unfolding HaveTaken
none_taken flat clock states rows list = refl

pub more_taken : (flat : Flat) (clock : ClockAt) (states : List ColumnStateOf) (rows k : ℕ) (old mid new : List TrackedOf) → HaveTaken flat clock states rows k old mid → TakesAt flat clock states rows k mid new
    → HaveTaken flat clock states rows (k + 1) old new
unfolding HaveTaken
more_taken flat clock states rows k old mid new before next =
    let e : suc k ≡ k + 1 = omega arith in subst (λ n. HaveTaken flat clock states rows n old new) e (mid, before, next)
