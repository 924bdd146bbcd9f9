-- What a flat model has, so that its event side can run: each number is that of a row, each port of
-- a block of processes has one sample of the format of its signal.
-- Source: own.
use Rattle.std.specs.Prelude.{◌≡◌, ◌<◌, ◌^◌, ℕ, List, length, map, Some, All, slice_get}
use Rattle.tdf_events.specs.Processes.{owned_events}
use Rattle.tdf_expr.specs.Checked.{IsChecked}
use Rattle.tdf_expr.specs.Frames.{IsOfFormat}
use Rattle.tdf_expr.specs.Made.{block_count, event_count, port_spans_of}
use Rattle.tdf_expr.specs.declared.spans.PortSpan.{PortSpan}
use Rattle.tdf_fixed.specs.declared.format.Format.{Format}
use Rattle.tdf_fixed.specs.declared.raw.Raw.{Raw}
use Rattle.tdf_bind.specs.declared.model.Flat.{Flat}
use Rattle.tdf_bind_connections.specs.ProcessBlocks.{BlockRowOf, ProcessRowOf}

-- the formats of the event signals
abbrev pub signal_formats : Flat → List Format
signal_formats flat = map (λ row. row.format) flat.tables.de_signals

-- each value is of its signal's format
pub record AreOfSignals (formats : List Format) (values : List Raw) : Type 0 where
  pub long : length values ≡ length formats
  pub each : (n : ℕ) (f : Format) (value : Raw) → slice_get formats n ≡ Some f
      → slice_get values n ≡ Some value → IsOfFormat f value

-- the ports of an instance: one signal and one sample for each, which are of one format
pub record ArePortsOf (formats : List Format) (spans : List PortSpan) (signals : List ℕ)
    : Type 0 where
  pub few : length spans < 2 ^ 32
  pub long : length signals ≡ length spans
  pub first : (n : ℕ) (p : PortSpan) → slice_get spans n ≡ Some p → p.first ≡ n
  pub one : (n : ℕ) (p : PortSpan) → slice_get spans n ≡ Some p → p.count ≡ 1
  pub format : (n s : ℕ) (p : PortSpan) → slice_get spans n ≡ Some p → slice_get signals n ≡ Some s
      → slice_get formats s ≡ Some p.format

pub record IsInstance (flat : Flat) (owner : ℕ) (row : BlockRowOf) : Type 0 where
  pub block : row.block < block_count flat.checked
  pub ports : ArePortsOf (signal_formats flat) (port_spans_of flat.checked row.block) row.signals
  pub events : length (owned_events flat owner) ≡ event_count flat.checked row.block

pub record IsProcess (flat : Flat) (row : ProcessRowOf) : Type 0 where
  pub owner : row.owner < length flat.tables.blocks
  pub signals : All (λ signal. signal < length flat.tables.de_signals) row.signals
  pub events : All (λ event. event < length flat.tables.events) row.events

pub record IsRunnable (flat : Flat) : Type 0 where
  pub checked_is : IsChecked flat.checked
  pub few_signals : length flat.tables.de_signals < 2 ^ 32
  pub few_events : length flat.tables.events < 2 ^ 32
  pub few_blocks : length flat.tables.blocks < 2 ^ 32
  pub few_processes : length flat.tables.processes < 2 ^ 32
  pub starts : AreOfSignals (signal_formats flat) (map (λ row. row.start) flat.tables.de_signals)
  pub instances : (n : ℕ) (row : BlockRowOf) → slice_get flat.tables.blocks n ≡ Some row
      → IsInstance flat n row
  pub processes : All (IsProcess flat) flat.tables.processes
  pub owners : All (λ row. row.owner < length flat.tables.blocks) flat.tables.events
