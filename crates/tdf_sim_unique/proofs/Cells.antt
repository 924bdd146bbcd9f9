-- The cells of a trace are the same by compiled bodies of one text.
use Rattle.std.proofs.Common.{◌≡◌, ℕ, ◌+◌, ◌-◌, List, Option, Some, None, if◌then◌else◌, length, nat_lt, slice_get, slice_index, slice_index_or, refl}
use Rattle.std.specs.Prelude.{option_map}
use Rattle.tdf_sim_unique.proofs.Bodies.{net_same, with_bodies}
use Rattle.tdf_sim_unique.proofs.Checks.{AreSame}
use Rattle.tdf_sim_unique.proofs.Instants.{history_same}
use Rattle.tdf_dynamic_plans.specs.Attributes.{clusters_of}
use Rattle.tdf_expr.specs.declared.checked.Checked.{Checked}
use Rattle.tdf_bind.specs.declared.model.Flat.{Flat}
use Rattle.tdf_streams.specs.Grounds.{firings}
use Rattle.tdf_streams.specs.Streams.{known}
use Rattle.tdf_sim_history.specs.Cells.{cell_by_driver, cell_or, changed_cell, column_spans, driven_cell, driver_of_row, event_cell, port_cell, run_cells, sample_at, sample_of, samples_done, signal_cell, trace_cell, value_before, world_of}
use Rattle.tdf_sim_history.specs.Columns.{ColumnStart, stamp_at, start_of}
use Rattle.tdf_sim_history.specs.Instant.{periods_of, run_in}
use Rattle.tdf_sim_history.specs.World.{ClusterAt, Rules, World}
use Rattle.tdf_trace_rows.specs.Positions.{position_at}
use Rattle.tdf_streams.specs.Cluster.{zero_sample}
use Rattle.tdf_lang_tree.specs.Pure.{PureTree}
use Rattle.tdf_bind_connections.specs.declared.modules.PortRow.{PortRow}
use Rattle.tdf_bind_connections.specs.declared.traces.TraceRow.{TraceRow}

module _ (model : PureTree) (a : Flat) (y : Checked) (same : AreSame a.checked y) where
  pub sample_same : (cluster : ℕ) (c : ClusterAt) (s : ColumnStart) (port : PortRow) (number j : ℕ) → sample_at model a cluster c s port number j ≡ sample_at model (with_bodies a y) cluster c s port number j
  sample_same cluster c s port number j = λ i. if nat_lt j (samples_done s port c)
      then sample_of s (periods_of c) port number (known (net_same model a y same cluster c.begun i) (run_in c) (firings (periods_of c))) j
      else None

  port_same : (cluster : ℕ) (s : ColumnStart) (port : PortRow) (number time : ℕ) (o : Option ClusterAt) → port_cell model a cluster s port number time o ≡ port_cell model (with_bodies a y) cluster s port number time o
  port_same cluster s port number time None = refl
  port_same cluster s port number time (Some c) = λ i. option_map (λ j. sample_same cluster c s port number j i) (position_at 0 (column_spans port s c.origin (periods_of c)) time)

  driven_same : (s : ColumnStart) (time : ℕ) (clusters : List ClusterAt) (number : ℕ) (o : Option PortRow) → driven_cell model a s time clusters number o ≡ driven_cell model (with_bodies a y) s time clusters number o
  driven_same s time clusters number None = refl
  driven_same s time clusters number (Some port) = port_same (slice_index (clusters_of a.tables) port.«module») s port number time
      (slice_get clusters (slice_index (clusters_of a.tables) port.«module» - 1))

  driver_same : (s : ColumnStart) (time : ℕ) (clusters : List ClusterAt) (o : Option ℕ) → cell_by_driver model a s time clusters o ≡ cell_by_driver model (with_bodies a y) s time clusters o
  driver_same s time clusters None = refl
  driver_same s time clusters (Some number) = driven_same s time clusters number (slice_get a.tables.ports number)

  signal_same : (s : ColumnStart) (time : ℕ) (clusters : List ClusterAt) (signal : ℕ) → signal_cell model a s time clusters signal ≡ signal_cell model (with_bodies a y) s time clusters signal
  signal_same s time clusters signal = driver_same s time clusters (driver_of_row (slice_get a.tables.signals signal))

  module _ {K : Type 0} (rules : Rules K) (start : World K) where
    value_same : (signal time : ℕ) → value_before model a rules start signal time ≡ value_before model (with_bodies a y) rules start signal time
    value_same signal time = λ i. slice_index_or (rules.event_side.values (world_of (history_same model a y same rules start time i)).events) signal zero_sample

    event_same : (signal time : ℕ) → event_cell model a rules start signal time ≡ event_cell model (with_bodies a y) rules start signal time
    event_same signal time = λ i. changed_cell (value_same signal time i) (value_same signal (time + 1) i)

    trace_same : (end time : ℕ) (s : ColumnStart) (o : Option TraceRow) → trace_cell model a rules start end time s o ≡ trace_cell model (with_bodies a y) rules start end time s o
    trace_same end time s None = refl
    trace_same end time s (Some row) = λ i. if row.event then cell_or (stamp_at s.stamps time) (event_same row.signal time i)
        else signal_same s time (world_of (history_same model a y same rules start end i)).clusters row.signal i

    pub cells_same : (end : ℕ) → run_cells model a rules start end ≡ run_cells model (with_bodies a y) rules start end
    cells_same end = λ i. record {
      columns = length a.tables.traces;
      first = λ column. (start_of start.shown column).carry;
      at = λ column time. trace_same end time (start_of start.shown column) (slice_get a.tables.traces column) i;
    }
