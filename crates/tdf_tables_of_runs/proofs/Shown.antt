-- What the columns of a run show has at most 64 bits.
use Rattle.std.proofs.Common.{◌≡◌, ℕ, zero, suc, ◌+◌, ◌-◌, if◌then◌else◌, nat_lt, List, [], ◌∷◌, length, ℤ, Option, Some, None, option_map, refl}
use Rattle.std.specs.List.{AllByRecursion, range_with_len}
use Rattle.std.specs.Option.{option_and_then}
use Rattle.std.specs.Prelude.{◌++◌, map, nat_eq, slice_get, slice_index, unwrap_or}
use Rattle.tdf_bind.specs.Flat.{IsFlatOf}
use Rattle.tdf_bind.specs.declared.model.Flat.{Flat}
use Rattle.tdf_bind_connections.specs.declared.modules.PortRow.{PortRow}
use Rattle.tdf_bind_connections.specs.declared.traces.TraceRow.{TraceRow}
use Rattle.tdf_bind_invariants.specs.Formats.{IsSoundModel, PortsHaveFormats}
use Rattle.tdf_dynamic_first.specs.declared.first.First.{First}
use Rattle.tdf_dynamic_plans.specs.Attributes.{clusters_of}
use Rattle.tdf_events.specs.Side.{SideOf}
use Rattle.tdf_events_invariants.specs.Runnable.{SignalsStartInFormat}
use Rattle.tdf_fixed.specs.declared.raw.Raw.{Raw}
use Rattle.tdf_lang_tree.specs.Pure.{PureTree}
use Rattle.tdf_sim_history.specs.Cells.{cell_by_driver, cell_or, column_spans, driven_cell, driver_of_row, event_cell, event_column_cell, is_same_value, port_cell, run_cells, sample_at, samples_done, signal_cell, trace_cell, value_before, world_before}
use Rattle.tdf_sim_history.specs.Columns.{ColumnStart, Stamp, held_by, no_start, stamp_at, start_of}
use Rattle.tdf_sim_history.specs.Instant.{periods_of, run_in}
use Rattle.tdf_sim_history.specs.Rules.{rules_of, start_world}
use Rattle.tdf_sim_history.specs.Start.{text_columns}
use Rattle.tdf_sim_history.specs.World.{Change, ClusterAt, World}
use Rattle.tdf_streams.specs.Cluster.{cluster_net}
use Rattle.tdf_streams.specs.Grounds.{firings}
use Rattle.tdf_streams.specs.Net.{Past, Turn}
use Rattle.tdf_streams.specs.Periods.{PeriodInfo}
use Rattle.tdf_streams.specs.Signals.{output_at_spot, outputs_in, port_output}
use Rattle.tdf_streams.specs.Streams.{Spot, find, known}
use Rattle.tdf_tables_of_runs.proofs.Sides.{IsSmallOption}
use Rattle.tdf_tables_of_runs.proofs.Small.{AreSmall, IsSmallRaw, all_at, all_made, all_or, either, value_small}
use Rattle.tdf_tables_of_runs.proofs.Starts.{IsSmallColumn, columns_small, start_small}
use Rattle.tdf_tables_of_runs.proofs.Worlds.{IsSmallCluster, IsSmallWorld, history_small, turn_small}
use Rattle.tdf_trace_rows.specs.Positions.{position_at}
use Rattle.tdf_trace_rows.specs.Rows.{last, shown}

abbrev IsSmallCell : Option (Option Raw) → Type 0
IsSmallCell None = Unit {0}
IsSmallCell (Some value) = IsSmallOption value

cell_made : (f : ℕ → Option Raw) (o : Option ℕ) → ((j : ℕ) → IsSmallOption (f j)) → IsSmallCell (option_map f o)
cell_made f None each = tt
cell_made f (Some j) each = each j

held_small : (values : List Raw) (j : ℕ) → AreSmall values → IsSmallOption (slice_get values j)
held_small [] j h = tt
held_small (v ∷ vs) zero h = h.0
held_small (v ∷ vs) (suc j) h = held_small vs j h.1

-- what a column's start gives at a time
stamp_small : (stamps : List Stamp) (ahead : List Raw) (time : ℕ) → AreSmall (map (λ (x : Stamp). x.value) stamps ++ ahead) → IsSmallOption (stamp_at stamps time)
stamp_small [] ahead time h = tt
stamp_small (x ∷ xs) ahead time h = either IsSmallOption (nat_eq x.time time) (Some x.value) (stamp_at xs time) h.0 (stamp_small xs ahead time h.1)

start_small_at : (s : ColumnStart) (time : ℕ) → AreSmall (held_by s) → IsSmallOption (stamp_at s.stamps time)
unfolding held_by
start_small_at s time h = stamp_small s.stamps s.ahead time h

cell_or_small : (o : Option Raw) (cell : Option (Option Raw)) → IsSmallOption o → IsSmallCell cell → IsSmallCell (cell_or o cell)
cell_or_small None cell g h = h
cell_or_small (Some value) cell g h = g

-- ---- samples

abbrev GivesSmall : Past (List ℤ) Raw → Type 0
GivesSmall past = (m n : ℕ) (t : Turn (List ℤ) Raw) → past m n ≡ Some t → (port k : ℕ) → IsSmallRaw (t.outputs port k)

turn_made : (o : Option (Turn (List ℤ) Raw)) (port k : ℕ) → ((t : Turn (List ℤ) Raw) → o ≡ Some t → IsSmallRaw (t.outputs port k))
    → IsSmallOption (option_map (λ (t : Turn (List ℤ) Raw). t.outputs port k) o)
turn_made None port k each = tt
turn_made (Some t) port k each = each t refl

spot_small : (port : PortRow) (number : ℕ) (past : Past (List ℤ) Raw) → GivesSmall past → (s : Option (Spot PeriodInfo)) → IsSmallOption (option_and_then (output_at_spot port number past) s)
spot_small port number past gives None = tt
spot_small port number past gives (Some s) = turn_made _ number _ (λ t at. gives _ _ t at number _)

module _ (model : PureTree) (flat : Flat) (formats : PortsHaveFormats) (starts : SignalsStartInFormat) (sound : IsSoundModel model) (is : IsFlatOf model flat) where
  module _ (s : ColumnStart) (held : AreSmall (held_by s)) where
    output_small : (cluster : ℕ) (c : ClusterAt) (port : PortRow) (number j : ℕ) → IsSmallCluster c
        → IsSmallOption (port_output (periods_of c) port number (known (cluster_net model flat cluster c.begun) (run_in c) (firings (periods_of c))) j)
    unfolding port_output
    output_small cluster c port number j small =
        spot_small port number (known (cluster_net model flat cluster c.begun) (run_in c) (firings (periods_of c)))
        (turn_small model flat is.bodies cluster c small (firings (periods_of c))) (find (outputs_in port) [] (periods_of c) j)

    sample_small : (cluster : ℕ) (c : ClusterAt) (port : PortRow) (number j : ℕ) → IsSmallCluster c → IsSmallOption (sample_at model flat cluster c s port number j)
    sample_small cluster c port number j small =
        let past = known (cluster_net model flat cluster c.begun) (run_in c) (firings (periods_of c)) in
        let output = port_output (periods_of c) port number past (j - length (held_by s)) in
        either IsSmallOption (nat_lt j (samples_done s port c)) (if nat_lt j (length (held_by s)) then slice_get (held_by s) j else output) None
        (either IsSmallOption (nat_lt j (length (held_by s))) (slice_get (held_by s) j) output (held_small (held_by s) j held)
        (output_small cluster c port number (j - length (held_by s)) small)) tt

    port_small : (cluster : ℕ) (port : PortRow) (number time : ℕ) (clusters : List ClusterAt) (n : ℕ) (o : Option ClusterAt) → slice_get clusters n ≡ o
        → AllByRecursion IsSmallCluster clusters → IsSmallCell (port_cell model flat cluster s port number time o)
    port_small cluster port number time clusters n None at h = tt
    port_small cluster port number time clusters n (Some c) at h =
        cell_made (sample_at model flat cluster c s port number) (position_at 0 (column_spans port s c.origin (periods_of c)) time)
        (λ j. sample_small cluster c port number j (all_at IsSmallCluster clusters n c h at))

    driven_small : (time : ℕ) (clusters : List ClusterAt) (number : ℕ) (o : Option PortRow) → AllByRecursion IsSmallCluster clusters
        → IsSmallCell (driven_cell model flat s time clusters number o)
    driven_small time clusters number None h = tt
    driven_small time clusters number (Some port) h =
        let n = slice_index (clusters_of flat.tables) port.«module» - 1 in
        port_small (slice_index (clusters_of flat.tables) port.«module») port number time clusters n (slice_get clusters n) refl h

    by_driver : (time : ℕ) (clusters : List ClusterAt) (o : Option ℕ) → AllByRecursion IsSmallCluster clusters → IsSmallCell (cell_by_driver model flat s time clusters o)
    by_driver time clusters None h = tt
    by_driver time clusters (Some number) h = driven_small time clusters number (slice_get flat.tables.ports number) h

  -- ---- event values

  module _ (firsts : List First) (ahead : List (List Change)) (turns : ℕ) where
    abbrev start : World SideOf
    start = start_world model flat firsts ahead turns

    before_small : (time : ℕ) → IsSmallWorld (world_before model flat (rules_of model flat) start time)
    before_small time = history_small model flat is.bodies start (start_small model flat formats starts sound is firsts ahead turns) time

    event_small : (signal time : ℕ) → IsSmallCell (event_cell model flat (rules_of model flat) start signal time)
    event_small signal time =
        let old = value_before model flat (rules_of model flat) start signal time in
        let new = value_before model flat (rules_of model flat) start signal (time + 1) in
        let w = world_before model flat (rules_of model flat) start (time + 1) in
        either IsSmallCell (is_same_value old new) None (Some (Some new)) tt (value_small w.events.values signal (before_small (time + 1)).events.values)

    trace_small : (end time : ℕ) (s : ColumnStart) (o : Option TraceRow) → AreSmall (held_by s) → IsSmallCell (trace_cell model flat (rules_of model flat) start end time s o)
    trace_small end time s None held = tt
    trace_small end time s (Some row) held =
        let clusters = (world_before model flat (rules_of model flat) start end).clusters in
        either IsSmallCell row.event (event_column_cell model flat (rules_of model flat) start s row.signal time) (signal_cell model flat s time clusters row.signal)
        (cell_or_small (stamp_at s.stamps time) (event_cell model flat (rules_of model flat) start row.signal time) (start_small_at s time held) (event_small row.signal time)) (by_driver s held time clusters (driver_of_row (slice_get flat.tables.signals row.signal)) (before_small end).clusters)

    -- ---- the columns

    no_start_small : IsSmallColumn model flat formats starts sound is no_start
    unfolding held_by
    no_start_small = (tt, tt)

    column_small : (column : ℕ) → IsSmallColumn model flat formats starts sound is (start_of start.shown column)
    column_small column = all_or (IsSmallColumn model flat formats starts sound is) (text_columns flat.tables) column no_start (columns_small model flat formats starts sound is) no_start_small

    unwrapped : (o : Option (Option Raw)) (v : Option Raw) → IsSmallCell o → IsSmallOption v → IsSmallOption (unwrap_or o v)
    unwrapped None v g h = h
    unwrapped (Some w) v g h = g

    pub last_small : (end column time : ℕ) → IsSmallOption (last (run_cells model flat (rules_of model flat) start end) column time)
    unfolding last
    last_small end column zero = (column_small column).0
    last_small end column (suc time) =
        unwrapped (trace_cell model flat (rules_of model flat) start end time (start_of start.shown column) (slice_get flat.tables.traces column))
        (last (run_cells model flat (rules_of model flat) start end) column time)
        (trace_small end time (start_of start.shown column) (slice_get flat.tables.traces column) (column_small column).1) (last_small end column time)

    pub shown_small : (end time : ℕ) → AllByRecursion IsSmallOption (shown (run_cells model flat (rules_of model flat) start end) time)
    unfolding shown
    shown_small end time = all_made IsSmallOption (λ column. last (run_cells model flat (rules_of model flat) start end) column time) (λ column. last_small end column time)
        (range_with_len 0 (length flat.tables.traces))
