-- The columns of a trace in a run whose snapshots say valid ones.
-- Source: own.
use Rattle.std.specs.Prelude.{◌≡◌, ◌<◌, ◌≤◌, ◌+◌, ◌*◌, ℕ, Bool, true, false, List, [], ◌∷◌, All, IsSome, None, Option, Some, length, map, slice_get, slice_index_or}
use Rattle.tdf_bind.specs.declared.model.Flat.{Flat}
use Rattle.tdf_bind_connections.specs.declared.drivers.SignalRow.{SignalRow}
use Rattle.tdf_bind_connections.specs.declared.modules.PortRow.{PortRow}
use Rattle.tdf_bind_connections.specs.declared.traces.TraceRow.{TraceRow}
use Rattle.tdf_bind_invariants.specs.Limits.{AreWithinLimits}
use Rattle.tdf_bind_tables.specs.FlatTables.{FlatTablesOf}
use Rattle.tdf_dynamic_first.specs.declared.first.First.{First}
use Rattle.tdf_events.specs.Side.{SideOf}
use Rattle.tdf_events.specs.State.{IsKernelState}
use Rattle.tdf_expr.specs.Checked.{IsCheckedOf}
use Rattle.tdf_fixed.specs.declared.raw.Raw.{Raw}
use Rattle.tdf_lang_tree.specs.Kept.{IsKept}
use Rattle.tdf_lang_tree.specs.Pure.{PureTree}
use Rattle.tdf_saved.specs.State.{ColumnStateOf, SnapshotOf}
use Rattle.tdf_sim_history.specs.Answers.{AreAnswers}
use Rattle.tdf_sim_history.specs.Cells.{value_before}
use Rattle.tdf_sim_history.specs.Columns.{ColumnStart, Stamp, start_of}
use Rattle.tdf_sim_history.specs.Instant.{is_due, periods_of}
use Rattle.tdf_sim_history.specs.Rules.{rules_of, start_world}
use Rattle.tdf_sim_history.specs.World.{Change, ClusterAt, World}
use Rattle.tdf_sim_history.specs.WorldLaws.{IsClusterOfPort, Shows}
use Rattle.tdf_sim_resumed.specs.Resuming.{resumed_clusters}
use Rattle.tdf_sim_resumed.specs.Snapshot.{IsSnapshot}
use Rattle.tdf_sim_resumed.specs.Starting.{resumed_world, rows_from_saved, tracked_of}
use Rattle.tdf_sim_resumed.specs.Valid.{AreAlikeColumns, AreColumns, HasNumbersFor, IsValid, StartsWith}
use Rattle.tdf_sim_split.specs.Laws.{AreSound}
use Rattle.tdf_streams.specs.Cluster.{zero_sample}
use Rattle.tdf_streams.specs.Periods.{PeriodRecord, done_before}
use Rattle.tdf_streams.specs.Signals.{positions, rate_in, step_in, time_of_periods}
use Rattle.tdf_trace_states.specs.Windows.{AreChangesTo}

-- ---- a column of samples

-- samples that stand at rising times, from one on and below an end
abbrev pub StandRising : (from : ℕ) → List Stamp → (end : ℕ) → Type 0
StandRising from [] end = from ≤ end
StandRising from (x ∷ xs) end = (from ≤ x.time) × StandRising (x.time + 1) xs end

-- the time of the first of them, or another where there is none
abbrev pub first_or : List Stamp → (time : ℕ) → ℕ
first_or [] time = time
first_or (x ∷ xs) time = x.time

-- where a column of the samples of a port begins, with rows from a time on, in this period, which
-- began at `origin`: it has samples of earlier periods from those rows on, and skips the positions
-- before them; it holds as many samples as were known in the period at the start; nothing is shown
-- before the time 0
pub record IsSampleStart (rows : ℕ) (s : ColumnStart) (port : PortRow) (origin : ℕ)
    (p : PeriodRecord) : Type 0 where
  pub rising : StandRising rows s.stamps (origin + s.skipped * step_in port p)
  pub early : All (λ (x : Stamp). x.time < origin) s.stamps
  pub within : s.skipped ≤ positions port p
  pub skips : (i : ℕ) → i < s.skipped → origin + i * step_in port p < rows
  pub held : s.skipped + length s.ahead
      ≡ port.delay + done_before p port.«module» * rate_in port p
  pub none : rows ≡ 0 → s.carry ≡ None
  pub some : 0 < rows → IsSome s.carry
  pub first : rows ≡ 0 → first_or s.stamps origin ≡ 0

-- so it begins in the first of some periods
abbrev pub BeginsIn : (rows : ℕ) → ColumnStart → PortRow → (origin : ℕ) → List PeriodRecord
    → Type 0
BeginsIn rows s port origin [] = ⊥
BeginsIn rows s port origin (p ∷ ps) = IsSampleStart rows s port origin p

-- ---- a column of an event signal

-- where a column of an event signal begins, with rows from a time on: it carries a value, the
-- starting one where rows begin at the time 0, and has changes before the time of the start, up to
-- the value that the signal has then
pub record IsEventStart (rows time : ℕ) (s : ColumnStart) (signal : Option SignalRow)
    (value : Raw) : Type 0 where
  pub carry : Raw
  pub carried : s.carry ≡ Some carry
  pub starts : rows ≡ 0 → StartsWith signal carry.num
  pub rising : StandRising rows s.stamps time
  pub changes : AreChangesTo carry.num (map (λ (x : Stamp). x.value.num) s.stamps) value.num

-- ---- all columns

-- a start at a time with sound columns, whose rows are written from another time on: nothing is due
-- before it, and columns of one signal begin alike
pub record HasSoundColumns (model : PureTree) (flat : Flat) (rows time : ℕ) (start : World SideOf)
    : Type 0 where
  pub within : rows ≤ time
  pub quiet : (t : ℕ) → t < time → is_due (rules_of model flat) start t ≡ false
  pub timed : (n : ℕ) (c : ClusterAt) → slice_get start.clusters n ≡ Some c
      → c.since ≡ c.origin + time_of_periods c.old
  pub samples : (s : ColumnStart) (number : ℕ) (port : PortRow) (c : ClusterAt)
      → Shows flat start.shown s number port → IsClusterOfPort flat start port c
      → BeginsIn rows s port c.origin (periods_of c)
  pub nothing : (column : ℕ) (row : TraceRow) → slice_get flat.tables.traces column ≡ Some row
      → row.event ≡ false → tracked_of flat.tables start.clusters row ≡ None
      → (start_of start.shown column).carry ≡ None
  pub events : (column : ℕ) (row : TraceRow) → slice_get flat.tables.traces column ≡ Some row
      → row.event ≡ true → IsEventStart rows time (start_of start.shown column)
      (slice_get flat.tables.de_signals row.signal)
      (slice_index_or start.events.values row.signal zero_sample)
  pub alike : (m n : ℕ) (one other : TraceRow) → slice_get flat.tables.traces m ≡ Some one
      → slice_get flat.tables.traces n ≡ Some other → one.event ≡ other.event
      → one.signal ≡ other.signal → start_of start.shown m ≡ start_of start.shown n

-- ---- snapshots

-- two clusters are at the same place of the same period, under the same plan
pub record IsAtSame (c d : ClusterAt) : Type 0 where
  pub entries : d.entries ≡ c.entries
  pub place : d.place ≡ c.place
  pub since : d.since ≡ c.since
  pub table : d.now.info.table ≡ c.now.info.table
  pub counts : d.now.info.counts ≡ c.now.info.counts
  pub period : d.now.info.period ≡ c.now.info.period

-- so are all clusters of two worlds
pub record AreAtSame (clusters others : List ClusterAt) : Type 0 where
  pub same : length others ≡ length clusters
  pub each : (n : ℕ) (c d : ClusterAt) → slice_get clusters n ≡ Some c
      → slice_get others n ≡ Some d → IsAtSame c d

-- what a run shows up to a time is of the formats of its signals: the numbers of the columns, and
-- the places of the values that event signals have
pub record IsInFormats (model : PureTree) (flat : Flat) (start : World SideOf) (time : ℕ)
    (columns : List ColumnStateOf) : Type 0 where
  pub numbers : (n : ℕ) (row : TraceRow) (column : ColumnStateOf)
      → slice_get flat.tables.traces n ≡ Some row → slice_get columns n ≡ Some column
      → HasNumbersFor flat.tables row column
  pub places : (n t : ℕ) (row : TraceRow) → slice_get flat.tables.traces n ≡ Some row
      → row.event ≡ true → t < time
      → (value_before model flat (rules_of model flat) start row.signal t).frac
      ≡ (value_before model flat (rules_of model flat) start row.signal (t + 1)).frac

-- the traces of event signals show signals that there are
abbrev pub EventsAreThere : FlatTablesOf → Type 0
EventsAreThere tables = (column : ℕ) (row : TraceRow) → slice_get tables.traces column ≡ Some row
    → row.event ≡ true → row.signal < length tables.de_signals

-- the columns of a snapshot are valid, and rows are still to be written from this time on
pub record HasValidColumns (model : PureTree) (flat : Flat) (firsts : List First) (s : SnapshotOf)
    (rows : ℕ) : Type 0 where
  pub rows_are : rows_from_saved model flat firsts s ≡ rows
  pub members : length s.columns ≡ length flat.tables.traces
  pub columns : AreColumns model flat firsts s
  pub alike : AreAlikeColumns flat s

-- the columns of a snapshot of a run from a start with sound columns are valid, where its clusters
-- are at the same places under the plans that it says
abbrev pub SavedColumnsAreValid : Type 0
SavedColumnsAreValid = (model : PureTree) (flat : Flat) (start w : World SideOf)
    → (first begin time budget : ℕ) (vcd : Bool) (s : SnapshotOf) (firsts : List First)
    → IsKept model → IsCheckedOf model flat.checked → AreWithinLimits flat
    → EventsAreThere flat.tables → AreSound flat start
    → AreAnswers model flat (rules_of model flat) start time → begin ≤ time
    → HasSoundColumns model flat first begin start
    → (is : IsSnapshot model flat start w time budget vcd s)
    → AreAtSame w.clusters (resumed_clusters model flat firsts s [])
    → IsKernelState flat s.time s.kernel
    → IsInFormats model flat start time s.columns
    → HasValidColumns model flat firsts s is.columns.rows

-- a run from its text begins with sound columns
abbrev pub TextsBeginWithColumns : Type 0
TextsBeginWithColumns = (model : PureTree) (flat : Flat) (firsts : List First)
    → (ahead : List (List Change)) (turns : ℕ) → EventsAreThere flat.tables
    → HasSoundColumns model flat 0 0 (start_world model flat firsts ahead turns)

-- so does the world that a valid snapshot says
abbrev pub ResumedBeginWithColumns : Type 0
ResumedBeginWithColumns = (model : PureTree) (flat : Flat) (firsts : List First) (s : SnapshotOf)
    → (ahead : List (List Change)) → AreWithinLimits flat → IsValid model flat firsts s
    → EventsAreThere flat.tables → HasSoundColumns model flat (rows_from_saved model flat firsts s)
    s.time (resumed_world model flat firsts s ahead)
