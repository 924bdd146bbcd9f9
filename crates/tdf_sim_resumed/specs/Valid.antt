-- When a snapshot is one that a run of a model can go on from.
-- Source: own.
use Rattle.std.specs.Prelude.{◌≡◌, ◌≢◌, ◌<◌, ◌≤◌, ◌+◌, ◌-◌, ◌^◌, ℕ, ℤ, false, true, List, [], ◌∷◌, All, IsSome, None, Option, Some, length, map, min, slice_get}
use Rattle.std.specs.List.{range_with_len}
use Rattle.tdf_base.specs.Limits.{time_end}
use Rattle.tdf_bind.specs.declared.model.Flat.{Flat}
use Rattle.tdf_bind_connections.specs.declared.drivers.SignalRow.{SignalRow}
use Rattle.tdf_bind_connections.specs.declared.traces.TraceRow.{TraceRow}
use Rattle.tdf_bind_tables.specs.Actors.{cluster_of}
use Rattle.tdf_bind_tables.specs.FlatTables.{FlatTablesOf}
use Rattle.tdf_dynamic_first.specs.declared.first.First.{First}
use Rattle.tdf_events.specs.State.{IsKernelState}
use Rattle.tdf_sim_refinement.specs.Below.{IsStateUnder}
use Rattle.tdf_fixed.specs.Overflow.{IsOfWidth}
use Rattle.tdf_graph.specs.Clusters.{greatest}
use Rattle.tdf_lang_tree.specs.Pure.{PureTree}
use Rattle.tdf_saved.specs.State.{ClusterStateOf, ColumnStateOf, SnapshotOf}
use Rattle.tdf_saved.specs.declared.state.Stamp.{Stamp as SavedStamp}
use Rattle.tdf_sim_resumed.specs.Resuming.{resumed_clusters}
use Rattle.tdf_trace_states.specs.Windows.{AreChangesTo, AreRisingFrom}
use Rattle.tdf_sim_resumed.specs.Starting.{Tracked, known_count, position_count, positions_before, row_of_trace, rows_from_saved, stamps_from, time_of_position, tracked_of}

-- the time is one of a run, and no more turns were used than there are
pub record HasTimesOf (s : SnapshotOf) : Type 0 where
  pub time : s.time < time_end
  pub used : s.used ≤ s.budget
  pub some : 1 ≤ s.budget
  pub most : s.budget ≤ 10 ^ 12

-- a state for each cluster, and one for each trace; what each has is said of it
pub record HasMembersOf (flat : Flat) (s : SnapshotOf) : Type 0 where
  pub clusters : length s.clusters ≡ greatest (map cluster_of flat.tables.actors)
  pub columns : length s.columns ≡ length flat.tables.traces

-- each cluster can go on from its state, under the table that this says and its plan: rates and
-- steps are within their limits, the table has no fault, the time lies inside the period, each edge
-- holds what was written and not read up to the place, and numbers are of their formats
pub record ArePlansOf (flat : Flat) (s : SnapshotOf) (firsts : List First) : Type 0 where
  pub all : length firsts ≡ length s.clusters
  pub each : (n : ℕ) (first : First) (c : ClusterStateOf) → slice_get firsts n ≡ Some first
      → slice_get s.clusters n ≡ Some c
      → IsStateUnder flat (n + 1) c s.time first.attrs.rows first.plan

-- ---- columns

-- a number lies in the range of a signal's format
abbrev pub IsNumberFor : Option SignalRow → ℤ → Type 0
IsNumberFor None num = ⊥
IsNumberFor (Some signal) num = IsOfWidth signal.format.signed signal.format.wl num

-- so do all of a column
pub record HasNumbersFor (tables : FlatTablesOf) (row : TraceRow) (s : ColumnStateOf) : Type 0 where
  pub carry : (num : ℤ) → s.carry ≡ Some num → IsNumberFor (row_of_trace tables row) num
  pub samples : All (λ (x : SavedStamp). IsNumberFor (row_of_trace tables row) x.num) s.samples
  pub later : All (IsNumberFor (row_of_trace tables row)) s.later

-- a column of samples, where rows are written from a time on: from the start of the period on it
-- has a sample at each known position, from those rows on, and the known ones for positions after
-- the period; nothing is carried to the time 0, and where rows begin there the first sample does
pub record IsValidSamples (rows : ℕ) (x : Tracked) (s : ColumnStateOf) : Type 0 where
  pub rising : AreRisingFrom rows s.samples
  pub known : map (λ (x : SavedStamp). x.time) (stamps_from x.cluster.since s)
      ≡ map (time_of_position x) (range_with_len (positions_before rows x)
      (min (known_count x) (position_count x) - positions_before rows x))
  pub later : length s.later ≡ known_count x - position_count x
  pub none : rows ≡ 0 → s.carry ≡ None
  pub some : 0 < rows → IsSome s.carry
  pub first : rows ≡ 0 → 0 < x.cluster.since → (sample : SavedStamp)
      × (slice_get s.samples 0 ≡ Some sample) × (sample.time ≡ 0)

-- the starting value of a signal
abbrev pub StartsWith : Option SignalRow → ℤ → Type 0
StartsWith None num = ⊥
StartsWith (Some signal) num = num ≡ signal.start.num

-- a column of an event signal: its changes below the time of the snapshot, from the value that is
-- carried to that which the signal has
pub record IsValidEvents (flat : Flat) (rows time : ℕ) (values : List ℤ) (row : TraceRow)
    (s : ColumnStateOf) : Type 0 where
  pub carry : ℤ
  pub carried : s.carry ≡ Some carry
  pub starts : rows ≡ 0 → StartsWith (slice_get flat.tables.de_signals row.signal) carry
  pub none_later : s.later ≡ []
  pub rising : AreRisingFrom rows s.samples
  pub before : All (λ (x : SavedStamp). x.time < time) s.samples
  pub value : ℤ
  pub value_is : slice_get values row.signal ≡ Some value
  pub changes : AreChangesTo carry (map (λ (x : SavedStamp). x.num) s.samples) value

-- one of a signal that no port drives shows nothing
pub record IsValidNothing (s : ColumnStateOf) : Type 0 where
  pub carry : s.carry ≡ None
  pub samples : s.samples ≡ []
  pub later : s.later ≡ []

-- a column of its kind
abbrev pub IsValidTracked : (rows : ℕ) → Option Tracked → ColumnStateOf → Type 0
IsValidTracked rows None column = IsValidNothing column
IsValidTracked rows (Some x) column = IsValidSamples rows x column

abbrev pub IsValidColumn : Flat → (rows : ℕ) → SnapshotOf → TraceRow → Option Tracked
    → ColumnStateOf → Type 0
IsValidColumn flat rows s row tracked column =
    (row.event ≡ true → IsValidEvents flat rows s.time s.kernel.values row column)
    × (row.event ≡ false → IsValidTracked rows tracked column)

-- what is so of all columns, where rows are written from a time on
pub record AreColumns (model : PureTree) (flat : Flat) (firsts : List First) (s : SnapshotOf)
    : Type 0 where
  pub numbers : (n : ℕ) (row : TraceRow) (column : ColumnStateOf)
      → slice_get flat.tables.traces n ≡ Some row → slice_get s.columns n ≡ Some column
      → HasNumbersFor flat.tables row column
  pub each : (n : ℕ) (row : TraceRow) (column : ColumnStateOf)
      → slice_get flat.tables.traces n ≡ Some row → slice_get s.columns n ≡ Some column
      → IsValidColumn flat (rows_from_saved model flat firsts s) s row
      (tracked_of flat.tables (resumed_clusters model flat firsts s []) row) column

-- two columns of one signal are equal
pub record AreAlikeColumns (flat : Flat) (s : SnapshotOf) : Type 0 where
  pub each : (m n : ℕ) (one other : TraceRow) → slice_get flat.tables.traces m ≡ Some one
      → slice_get flat.tables.traces n ≡ Some other → one.event ≡ other.event
      → one.signal ≡ other.signal → slice_get s.columns m ≡ slice_get s.columns n

-- ---- all together

-- a valid snapshot, with the plans under the tables that it says
pub record IsValid (model : PureTree) (flat : Flat) (firsts : List First) (s : SnapshotOf)
    : Type 0 where
  pub times : HasTimesOf s
  pub members : HasMembersOf flat s
  pub clusters : ArePlansOf flat s firsts
  pub kernel : IsKernelState flat s.time s.kernel
  pub columns : AreColumns model flat firsts s
  pub alike : AreAlikeColumns flat s
