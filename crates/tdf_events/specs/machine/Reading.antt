-- The ports of an instance that processes read take the values of their signals, one after the
-- other.
-- Source: own.
use Rattle.std.specs.Prelude.{ℕ, ◌+◌, ◌<◌, ◌≡◌, ◌^◌, if◌then◌else◌, List, [], ◌∷◌, Some, ℤ, length, slice_get}
use Rattle.tdf_events.specs.Processes.{process_ports_before}
use Rattle.tdf_events.specs.Side.{value_at}
use Rattle.tdf_expr.specs.Frames.{IsOfFormat, PortsSeen, is_written}
use Rattle.tdf_expr.specs.Made.{event_count, port_spans_of}
use Rattle.tdf_expr.specs.Runs.{Ran}
use Rattle.tdf_expr.specs.declared.bodies.Body.TheVariants.{Process}
use Rattle.tdf_expr.specs.declared.checked.Checked.{Checked}
use Rattle.tdf_expr.specs.declared.spans.PortSpan.{PortSpan}
use Rattle.tdf_fixed.specs.declared.raw.Raw.{Raw}
use Rattle.tdf_expr_state.specs.State.{FrameState, PortsState, cell_at, state_of}

-- each port has one signal and one sample, which are of one format
pub record CanRead (values : List Raw) (spans : List PortSpan) (signals : List ℕ) : Type 0 where
  pub few : length spans < 2 ^ 32
  pub long : length signals ≡ length spans
  pub first : (n : ℕ) (p : PortSpan) → slice_get spans n ≡ Some p → p.first ≡ n
  pub one : (n : ℕ) (p : PortSpan) → slice_get spans n ≡ Some p → p.count ≡ 1
  pub inside : (n s : ℕ) → slice_get signals n ≡ Some s → s < length values
  pub format : (n s : ℕ) (p : PortSpan) → slice_get spans n ≡ Some p → slice_get signals n ≡ Some s
      → IsOfFormat p.format (value_at values s)

abbrev pub with_samples : List ℤ → PortsSeen → PortsSeen
with_samples samples ports = record ports { state = record ports.state { samples = samples } }

-- the numbers of the ports that processes read, where these ports are numbered from `first`
unfoldable pub read_from : (first : ℕ) → List PortSpan → List ℕ
read_from first [] = []
read_from first (p ∷ ps) =
    if is_written p.word then read_from (first + 1) ps else first ∷ read_from (first + 1) ps

-- the first n of these ports hold the values of their signals, and no other port changed
pub record AreRead (values : List Raw) (signals reads : List ℕ) (n : ℕ) (old new : PortsSeen)
    : Type 0 where
  pub rest : new ≡ with_samples new.state.samples old
  pub long : length new.state.samples ≡ length old.state.samples
  pub read : (j k s : ℕ) → j < n → slice_get reads j ≡ Some k → slice_get signals k ≡ Some s
      → cell_at new.state.samples k ≡ (value_at values s).num
  pub kept : (k : ℕ) → ((j : ℕ) → slice_get reads j ≡ Some k → ⊥)
      → cell_at new.state.samples k ≡ cell_at old.state.samples k

-- process `number` of a block ran from these values of signals
abbrev pub HasRun : Checked → (block number : ℕ) → List Raw → (signals : List ℕ)
    → (old new : FrameState) → PortsState → Type 0
HasRun checked block number values signals old new ports = Ran checked block (Process number)
    (state_of old (process_ports_before values signals (port_spans_of checked block)
    (event_count checked block))) (state_of new ports)
