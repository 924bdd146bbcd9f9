-- What lies on edges is of their formats (own): each edge has one, which both its ports have.
use Rattle.std.specs.List.{All}
use Rattle.std.specs.Prelude.{◌≡◌, ℕ, ◌<◌, List, length, Some, slice_get}
use Rattle.tdf_expr.specs.Frames.{IsOfFormat, PortsSeen}
use Rattle.tdf_expr.specs.declared.spans.PortSpan.{PortSpan}
use Rattle.tdf_exec_firing.specs.Actors.{HasTaken, HavePut}
use Rattle.tdf_exec_firing.specs.Firing.{AreMoved, AreOfFormats, CanFire, HoldFormats}
use Rattle.tdf_exec_firing.specs.Wires.{WiresOf}
use Rattle.tdf_exec_firing.specs.declared.wires.InWire.{InWire}
use Rattle.tdf_exec_firing.specs.declared.wires.OutWire.{OutWire}
use Rattle.tdf_fixed.specs.declared.format.Format.{Format}
use Rattle.tdf_fixed.specs.declared.raw.Raw.{Raw}
use Rattle.tdf_rings.specs.Carried.{ring_at}
use Rattle.tdf_rings.specs.Rings.{RingOf}

-- the format of each edge is that of the ports of its wires
pub record AreFormats (format : ℕ → Format) (wires : WiresOf) (spans : List PortSpan) : Type 0 where
  pub ins : (j : ℕ) (w : InWire) (p : PortSpan) → slice_get wires.ins j ≡ Some w
      → slice_get spans w.port ≡ Some p → format w.edge ≡ p.format
  pub outs : (j : ℕ) (w : OutWire) (p : PortSpan) → slice_get wires.outs j ≡ Some w
      → slice_get spans w.port ≡ Some p → format w.edge ≡ p.format

-- each sample on each edge is of the edge's format
pub record AreFormatted (format : ℕ → Format) (rings : List RingOf) : Type 0 where
  pub each : (e : ℕ) → e < length rings
      → All (IsOfFormat (format e)) (ring_at rings e).samples

-- so a firing of a module may read what lies there, and leaves such rings
pub record LeavesFormats (format : ℕ → Format) (wires : WiresOf) (reads writes : List ℕ)
    (ports : PortsSeen) (old : List RingOf) : Type 0 where
  pub reads_them : ((j : ℕ) (w : InWire) → slice_get wires.ins j ≡ Some w → w.edge < length old)
      → AreOfFormats wires ports.spans old
  pub leaves : (new : List RingOf) → CanFire wires reads writes ports.spans old
      → ((j : ℕ) (w : OutWire) → slice_get wires.outs j ≡ Some w → w.port < length ports.spans)
      → HoldFormats ports → AreMoved wires reads writes ports old new → AreFormatted format new

abbrev pub ModulesKeepFormats : Type 0
ModulesKeepFormats = (format : ℕ → Format) (wires : WiresOf) (reads writes : List ℕ)
    (ports : PortsSeen) (old : List RingOf) → AreFormats format wires ports.spans
    → AreFormatted format old → LeavesFormats format wires reads writes ports old

-- so do those of a sampler whose value is of the format of each of its edges, and of a sink
abbrev pub SamplersKeepFormats : Type 0
SamplersKeepFormats = (format : ℕ → Format) (value : Raw) (edges : List ℕ) (old new : List RingOf)
    → ((j e : ℕ) → slice_get edges j ≡ Some e → IsOfFormat (format e) value)
    → AreFormatted format old → HavePut value edges old new → AreFormatted format new

abbrev pub SinksKeepFormats : Type 0
SinksKeepFormats = (format : ℕ → Format) (edge : ℕ) (old new : List RingOf)
    → AreFormatted format old → HasTaken edge old new → AreFormatted format new
