-- The times of positions, and the samples at the start of a period.
-- Source: own.
use Rattle.std.specs.Prelude.{◌≡◌, ◌<◌, ◌↔◌, ℕ, All, List, Some, ◌+◌}
use Rattle.tdf_bind.specs.declared.model.Flat.{Flat}
use Rattle.tdf_bind_connections.specs.declared.modules.PortRow.{PortRow}
use Rattle.tdf_bind_invariants.specs.Limits.{AreWithinLimits}
use Rattle.tdf_exec.specs.Cluster.{ClusterOf}
use Rattle.tdf_lang_tree.specs.Pure.{PureTree}
use Rattle.tdf_sim_history.specs.Cells.{spans_from, column_spans}
use Rattle.tdf_sim_history.specs.Instant.{periods_of}
use Rattle.tdf_sim_history.specs.World.{ClusterAt}
use Rattle.tdf_sim_history.specs.WorldLaws.{IsThere, HoldsFirst}
use Rattle.tdf_sim_refinement.specs.At.{IsAt}
use Rattle.tdf_streams.specs.Laws.{IsClusterPort}
use Rattle.tdf_streams.specs.Periods.{IsTimedRecord, PeriodRecord}
use Rattle.tdf_streams.specs.Signals.{position_time, time_of_periods}
use Rattle.tdf_trace_rows.specs.Positions.{position_at}
use Rattle.tdf_sim_history.specs.Columns.{ColumnStart}

-- a time has a position of a port's signal exactly where that position has this time
abbrev pub TimesAreOne : Type 0
TimesAreOne = (flat : Flat) (cluster number : ℕ) (port : PortRow) (periods : List PeriodRecord)
    → (time position : ℕ) → AreWithinLimits flat → IsClusterPort flat cluster number port
    → All (IsTimedRecord flat cluster) periods
    → (position_at 0 (spans_from port 0 periods) time ≡ Some position)
    ↔ (position_time periods port position ≡ Some time)

-- a cluster in progress that is what the history says of it has the sample of each position whose
-- time is below the start of its period
abbrev pub SamplesAreAt : Type 0
SamplesAreAt = (model : PureTree) (flat : Flat) (number : ℕ) (h : ClusterAt) (c : ClusterOf)
    → (s : ColumnStart) (port : PortRow) (out time j : ℕ) → IsAt model flat number h c
    → HoldsFirst s port (periods_of h) → time < h.origin + time_of_periods h.old
    → position_at 0 (column_spans port s h.origin (periods_of h)) time ≡ Some j
    → IsThere model flat number h s port out j
