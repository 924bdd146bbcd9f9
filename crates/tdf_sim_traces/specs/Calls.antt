-- What the calls ask for, and what they do to what is shown.
-- Source: own.
use Rattle.std.specs.Prelude.{◌≡◌, ◌<◌, ◌≤◌, ◌+◌, ℕ, List, [], All, Some, length, map, slice_get}
use Rattle.tdf_base.specs.Limits.{most_traces}
use Rattle.tdf_bind_tables.specs.FlatTables.{FlatTablesOf}
use Rattle.tdf_trace.specs.Calls.{IsFresh, StandBelow}
use Rattle.tdf_trace.specs.Tracked.{AreSince}
use Rattle.tdf_convert.specs.declared.outputs.Traced.{Traced}
use Rattle.tdf_dynamic_first.specs.declared.first.First.{First}
use Rattle.tdf_events.specs.Side.{SideOf}
use Rattle.tdf_fixed.specs.declared.raw.Raw.{Raw}
use Rattle.tdf_bind.specs.Flat.{IsFlatOf}
use Rattle.tdf_bind.specs.declared.model.Flat.{Flat}
use Rattle.tdf_sim_history.specs.Cells.{run_cells, world_before}
use Rattle.tdf_sim_history.specs.World.{World}
use Rattle.tdf_bind_invariants.specs.Limits.{AreWithinLimits}
use Rattle.tdf_sim_refinement.specs.Pass.{AreAt}
use Rattle.tdf_sim_traces.specs.Advanced.{HasAdvanced}
use Rattle.tdf_sim_traces.specs.Events.{AreEventColumns, values_before}
use Rattle.tdf_sim_traces.specs.Periods.{CanBeginAll, ClockAt}
use Rattle.tdf_sim_traces.specs.Shown.{IsShown}
use Rattle.tdf_sim_traces.specs.Signals.{AreTold, AreTracedSignals}
use Rattle.tdf_sim_traces.specs.Variables.{variables_of}
use Rattle.tdf_sim_traces.specs.declared.events.EventColumn.{EventColumn}
use Rattle.tdf_sim_traces.specs.declared.shown.Shown.{Shown}
use Rattle.tdf_sim_traces.specs.declared.signals.TracedSignal.{TracedSignal}
use Rattle.tdf_streams.specs.Cluster.{initial_samples}
use Rattle.tdf_trace.specs.Stands.{IsNew}
use Rattle.tdf_trace.specs.Writings.{about_of}
use Rattle.tdf_lang_tree.specs.Pure.{PureTree}
use Rattle.tdf_trace_rows.specs.declared.kinds.TraceKind.{TraceKind}
use Rattle.tdf_sim_history.specs.Rules.{rules_of, start_world}

-- what a flat model has, so that its traces can be shown: few traces of signals that are there, and
-- event signals whose first values can be written
pub record CanBeShown (tables : FlatTablesOf) : Type 0 where
  pub told : AreTold tables
  pub few : length tables.traces ≤ most_traces
  pub starts : All (λ row. row.start.frac ≤ 120) tables.de_signals

-- the values that event signals start with
abbrev pub start_values : FlatTablesOf → List Raw
start_values tables = map (λ row. row.start) tables.de_signals

-- nothing is shown yet
pub record IsUnshown (kind : TraceKind) (flat : Flat) (s : Shown) : Type 0 where
  pub trace : IsNew s.trace (about_of kind flat.resolution (variables_of flat.tables))
  pub columns : length (variables_of flat.tables) ≡ length flat.tables.traces
  pub tracking : IsFresh flat.tables.traces s.tracking
  pub signals : AreTracedSignals flat s.signals.items
  pub events : AreEventColumns flat.tables.traces (start_values flat.tables) s.events.items

-- the first periods of all traced signals can begin, and what these start with can be written
pub record CanStart (flat : Flat) (clock : ClockAt) (s : Shown) : Type 0 where
  pub begin : CanBeginAll flat clock s.signals.items s.tracking.list
  pub width : s.tracking.width ≤ length s.trace.about.variables
  pub upto : s.trace.rows.upto ≡ 0
  pub few : (k : ℕ) (t : TracedSignal) → slice_get s.signals.items k ≡ Some t
      → All (λ value. value.frac ≤ 120)
      (initial_samples flat.tables (slice_get flat.tables.ports t.port))

-- each traced signal has its initial samples and its first period
abbrev pub StartsShowing : Flat → ClockAt → (old new : Shown) → Type 0
StartsShowing flat clock old new =
    (model : PureTree) (kind : TraceKind) (firsts : List First) (turns : ℕ)
    → IsUnshown kind flat old
    → AreAt model flat clock.since (start_world model flat firsts [] turns).clusters clock.clusters
    → IsShown model flat (start_world model flat firsts [] turns) 0
    (start_world model flat firsts [] turns) new

-- what an instant gave can be taken: the periods that begin, the samples, and the values of the
-- event signals
pub record CanTake (flat : Flat) (clock : ClockAt) (traced : List Traced) (values : List Raw)
    (s : Shown) : Type 0 where
  pub begin : 0 < clock.time → CanBeginAll flat clock s.signals.items s.tracking.list
  pub since : AreSince s.trace.rows.upto s.tracking.list
  pub upto : s.trace.rows.upto ≤ clock.time
  pub width : s.tracking.width ≤ length s.trace.about.variables
  pub few : All (λ sample. sample.value.frac ≤ 120) traced
  pub columns : (k : ℕ) (e : EventColumn) → slice_get s.events.items k ≡ Some e
      → e.column < length s.trace.about.variables
  pub signals : (k : ℕ) (e : EventColumn) → slice_get s.events.items k ≡ Some e
      → e.signal < length values
  pub few_values : All (λ value. value.frac ≤ 120) values

-- an instant went on, and its time is shown
abbrev pub ShowsInstant : Flat → ClockAt → List Traced → (values : List Raw) → (old new : Shown)
    → Type 0
ShowsInstant flat clock traced values old new =
    (model : PureTree) (start w v : World SideOf) → AreWithinLimits flat
    → IsShown model flat start clock.time w old → HasAdvanced model flat clock.time w v traced
    → AreAt model flat clock.since v.clusters clock.clusters
    → values ≡ values_before model flat start (clock.time + 1)
    → IsShown model flat start (clock.time + 1) v new

-- at the end of a run the rows stand for cells that are those of the run below the end
abbrev pub ShowsEnd : (end : ℕ) → (old new : Shown) → Type 0
ShowsEnd end old new = (model : PureTree) (flat : Flat) (start : World SideOf)
    → IsFlatOf model flat → AreWithinLimits flat
    → IsShown model flat start end (world_before model flat (rules_of model flat) start end) old
    → StandBelow (run_cells model flat (rules_of model flat) start end) end new.trace.rows
