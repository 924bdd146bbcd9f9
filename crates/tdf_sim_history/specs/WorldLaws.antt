-- Later instants change no cell below a mark.
-- Source: own.
use Rattle.std.specs.Prelude.{◌≡◌, ◌+◌, ◌-◌, ◌<◌, ◌≤◌, ℕ, ℤ, false, List, [], ◌∷◌, Some, length, slice_get, slice_index}
use Rattle.tdf_fixed.specs.declared.raw.Raw.{Raw}
use Rattle.tdf_dynamic.specs.Below.{AreRecords, AreWithinLimits, Flat, PeriodRecord, Start, Turn, cluster_net, firings, known, outputs_in, positions, time_of_periods}
use Rattle.tdf_events.specs.Side.{SideOf}
use Rattle.tdf_dynamic_plans.specs.Attributes.{clusters_of}
use Rattle.tdf_sim_history.specs.Cells.{column_spans, driver_of_row, run_cells, sample_at, samples_done}
use Rattle.tdf_sim_history.specs.Columns.{ColumnStart, start_of}
use Rattle.tdf_sim_history.specs.Instant.{activations, periods_of, run_in}
use Rattle.tdf_sim_history.specs.World.{ClusterAt, World}
use Rattle.tdf_sim_history.specs.History.{On, history}
use Rattle.tdf_sim_history.specs.TurnLaws.{IsOn}
use Rattle.tdf_trace_rows.specs.Laws.{Agree}
use Rattle.tdf_trace_rows.specs.Positions.{position_at}
use Rattle.tdf_lang_tree.specs.Pure.{PureTree}
use Rattle.tdf_bind_connections.specs.declared.modules.PortRow.{PortRow}
use Rattle.tdf_bind_connections.specs.declared.traces.TraceRow.{TraceRow}
use Rattle.tdf_sim_history.specs.Continuing.{HasWholePlan}
use Rattle.tdf_sim_history.specs.Rules.{rules_of, world_engine}

-- the periods of a cluster from a start on, which may lie inside the first
abbrev pub AreRecordsOf : Flat → (number : ℕ) → Start → List PeriodRecord → Type 0
AreRecordsOf flat number begun [] = ⊥
AreRecordsOf flat number begun (first ∷ later) = AreRecords flat number begun first later

-- the cluster of this number: its periods are those of its start, its plan has the firings of the
-- period and those ahead have theirs, and each activation that is done has its value
pub record HasDone (model : PureTree) (flat : Flat) (number : ℕ) (c : ClusterAt) : Type 0 where
  pub records : AreRecordsOf flat number c.begun (periods_of c)
  pub plan : HasWholePlan c
  pub place : c.place ≤ length c.entries
  pub known : (m n : ℕ) → n < activations c m → (t : Turn (List ℤ) Raw)
      × (known (cluster_net model flat number c.begun) (run_in c) (firings (periods_of c)) m n
      ≡ Some t)

-- so it is with each cluster
pub record AreSteady {K : Type 0} (model : PureTree) (flat : Flat) (w : World K) : Type 0 where
  pub each : (n : ℕ) (c : ClusterAt) → slice_get w.clusters n ≡ Some c
      → HasDone model flat (n + 1) c

-- a column begins so, and shows the signal that a port drives
pub record Shows (flat : Flat) (shown : List ColumnStart) (s : ColumnStart) (number : ℕ)
    (port : PortRow) : Type 0 where
  pub column : ℕ
  pub row : TraceRow
  pub there : slice_get flat.tables.traces column ≡ Some row
  pub plain : row.event ≡ false
  pub driver : driver_of_row (slice_get flat.tables.signals row.signal) ≡ Some number
  pub port_is : slice_get flat.tables.ports number ≡ Some port
  pub start_is : start_of shown column ≡ s

-- a start lies at one of the positions of its period, or after them, and the samples that it holds
-- and the outputs of the period are enough for those from it on
abbrev pub HoldsFirst : ColumnStart → PortRow → List PeriodRecord → Type 0
HoldsFirst s port [] = Unit {0}
HoldsFirst s port (p ∷ ps) = (s.skipped ≤ positions port p)
    × (positions port p ≤ s.skipped + (length s.ahead + outputs_in port p))

-- the cluster of a port
abbrev pub IsClusterOfPort : {K : Type 0} → Flat → World K → PortRow → ClusterAt → Type 0
IsClusterOfPort flat w port c =
    slice_get w.clusters (slice_index (clusters_of flat.tables) port.«module» - 1) ≡ Some c

-- so it is with each column
abbrev pub AreStarted : {K : Type 0} → Flat → List ColumnStart → World K → Type 0
AreStarted flat shown w = (s : ColumnStart) (number : ℕ) (port : PortRow) (c : ClusterAt)
    → Shows flat shown s number port → IsClusterOfPort flat w port c
    → HoldsFirst s port (periods_of c)

-- sample j of a column is there: one that its start holds, or an output of an activation that is
-- done
pub record IsThere (model : PureTree) (flat : Flat) (number : ℕ) (c : ClusterAt) (s : ColumnStart)
    (port : PortRow) (out j : ℕ) : Type 0 where
  pub done : j < samples_done s port c
  pub value : Raw
  pub sample : sample_at model flat number c s port out j ≡ Some value

-- so it is at each position whose time is below the start of the period in progress
abbrev pub SamplesAreThere : Type 0
SamplesAreThere = (model : PureTree) (flat : Flat) (number : ℕ) (c : ClusterAt) (s : ColumnStart)
    → (port : PortRow) (out time j : ℕ) → HasDone model flat number c
    → HoldsFirst s port (periods_of c) → time < c.origin + time_of_periods c.old
    → position_at 0 (column_spans port s c.origin (periods_of c)) time ≡ Some j
    → IsThere model flat number c s port out j

-- below a mark, which isn't after the period in progress, each position of a column has its sample
pub record IsSettled {K : Type 0} (flat : Flat) (shown : List ColumnStart) (w : World K)
    (mark : ℕ) : Type 0 where
  pub within : (n : ℕ) (c : ClusterAt) → slice_get w.clusters n ≡ Some c
      → mark ≤ c.origin + time_of_periods (periods_of c)
  pub there : (s : ColumnStart) (number : ℕ) (port : PortRow) (c : ClusterAt) (time j : ℕ)
      → Shows flat shown s number port → IsClusterOfPort flat w port c → time < mark
      → position_at 0 (column_spans port s c.origin (periods_of c)) time ≡ Some j
      → j < samples_done s port c

-- so it is where no cluster began its period before the mark
abbrev pub MarksAreSettled : Type 0
MarksAreSettled = (model : PureTree) (flat : Flat) (shown : List ColumnStart) (w : World SideOf)
    → (mark : ℕ) → AreWithinLimits flat → AreSteady model flat w → AreStarted flat shown w
    → ((n : ℕ) (c : ClusterAt) → slice_get w.clusters n ≡ Some c
    → mark ≤ c.origin + time_of_periods c.old)
    → IsSettled flat shown w mark

-- where the history goes on to a later end, the cells below such a mark stay as they are
abbrev pub CellsStay : Type 0
CellsStay = (model : PureTree) (flat : Flat) (start w e : World SideOf) (now end mark : ℕ)
    → AreWithinLimits flat → IsOn (world_engine model flat) 0 start now w → now ≤ end
    → history (world_engine model flat) 0 start end ≡ On e → AreSteady model flat w → mark ≤ now
    → IsSettled flat start.shown w mark
    → Agree (run_cells model flat (rules_of model flat) start now)
    (run_cells model flat (rules_of model flat) start end) mark
