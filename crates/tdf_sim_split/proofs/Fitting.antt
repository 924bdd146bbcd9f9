-- What a run shows of its traces has the fraction bits of their signals.
use Rattle.std.proofs.Common.{◌≡◌, ◌∙◌, ◌<◌, ◌≤◌, ℕ, zero, suc, true, Option, Some, None, slice_get, slice_index, unwrap_or, refl, ap, sym, arith}
use Rattle.tdf_bind.specs.declared.model.Flat.{Flat}
use Rattle.tdf_bind_connections.specs.declared.modules.PortRow.{PortRow}
use Rattle.tdf_bind_connections.specs.declared.traces.TraceRow.{TraceRow}
use Rattle.tdf_bind_tables.specs.FlatTables.{FlatTablesOf}
use Rattle.tdf_dynamic_plans.specs.Attributes.{clusters_of}
use Rattle.tdf_events.specs.Side.{SideOf}
use Rattle.tdf_fixed.specs.declared.raw.Raw.{Raw}
use Rattle.tdf_lang_tree.specs.Pure.{PureTree}
use Rattle.tdf_sim_history.specs.Cells.{driver_of_row, run_cells, sample_at}
use Rattle.tdf_sim_history.specs.Columns.{start_of}
use Rattle.tdf_sim_history.specs.Rules.{rules_of}
use Rattle.tdf_sim_history.specs.World.{ClusterAt, World}
use Rattle.tdf_sim_history.specs.WorldLaws.{IsClusterOfPort}
use Rattle.tdf_sim_resumed.specs.Starting.{row_of_trace, value_of_trace}
use Rattle.tdf_streams.proofs.Api.{none_some}
use Rattle.tdf_streams.specs.Cluster.{fraction_of_row}
use Rattle.tdf_trace_rows.specs.Rows.{Cells, last}

-- a value has as many fraction bits as the signal of a trace
abbrev pub FitsTrace : FlatTablesOf → TraceRow → Raw → Type 0
FitsTrace tables row value = value.frac ≡ fraction_of_row (row_of_trace tables row)

-- so it is that of its number
pub fitting : (tables : FlatTablesOf) (row : TraceRow) (value : Raw) → FitsTrace tables row value → value_of_trace tables row value.num ≡ value
fitting tables row value fits = λ i. record { num = value.num; frac = sym fits i }

-- each sample of a trace's column that is there fits, where a port drives its signal
abbrev pub SamplesFit : PureTree → Flat → (start w : World SideOf) → (column : ℕ) → TraceRow → Type 0
SamplesFit model flat start w column row = (number : ℕ) (port : PortRow) (c : ClusterAt) → driver_of_row (slice_get flat.tables.signals row.signal) ≡ Some number → slice_get flat.tables.ports number ≡ Some port → IsClusterOfPort flat w port c
    → (j : ℕ) (value : Raw) → sample_at model flat (slice_index (clusters_of flat.tables) port.«module») c (start_of start.shown column) port number j ≡ Some value → FitsTrace flat.tables row value

-- this holds of what a column shows just before a time, and of what it shows from then on, up to another
pub record HasShown (P : Raw → Type 0) (cells : Cells) (column from end : ℕ) : Type 0 where
  pub before : (value : Raw) → last cells column from ≡ Some value → P value
  pub after : (time : ℕ) (value : Raw) → from ≤ time → time < end → cells.at column time ≡ Some (Some value) → P value

-- what is so of what a column begins with and of what it shows up to a time is so of what it showed last
pub last_has : (P : Raw → Type 0) (cells : Cells) (column end : ℕ) → ((x : Raw) → cells.first column ≡ Some x → P x) → ((t : ℕ) (x : Raw) → t < end → cells.at column t ≡ Some (Some x) → P x)
    → (t : ℕ) (x : Raw) → t ≤ end → last cells column t ≡ Some x → P x
unfolding last
last_has P cells column end carries each zero x low is = carries x is
last_has P cells column end carries each (suc t) x low is = go (λ y shows. last_has P cells column end carries each t y (omega (arith, low)) shows) (cells.at column t) refl is
  where
    go : ((y : Raw) → last cells column t ≡ Some y → P y) → (o : Option (Option Raw)) → cells.at column t ≡ o → unwrap_or o (last cells column t) ≡ Some x → P x
    go before None at shows = before x shows
    go before (Some None) at shows = none_some x shows
    go before (Some (Some y)) at shows = each t x (omega (arith, low)) (at ∙ ap Some shows)

-- what it shows fits
abbrev pub FitsShown : FlatTablesOf → Cells → (column : ℕ) → TraceRow → (from end : ℕ) → Type 0
FitsShown tables cells column row from end = HasShown (FitsTrace tables row) cells column from end

-- so do all event signals that a run shows up to a time, from one on
abbrev pub EventsFit : PureTree → Flat → (start : World SideOf) → (time rows : ℕ) → Type 0
EventsFit model flat start time rows = (column : ℕ) (row : TraceRow) → slice_get flat.tables.traces column ≡ Some row → row.event ≡ true → FitsShown flat.tables (run_cells model flat (rules_of model flat) start time) column row rows time
