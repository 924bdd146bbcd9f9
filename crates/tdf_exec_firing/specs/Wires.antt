-- Which edges a module reads and writes (own). Edges are numbered through the whole model.
use Rattle.std.specs.Prelude.{◌≡◌, ℕ, ◌<◌, false, List, Some, length, slice_get}
use Rattle.tdf_expr.specs.Frames.{is_written}
use Rattle.tdf_expr.specs.declared.spans.PortSpan.{PortSpan}
use Rattle.tdf_exec_firing.specs.declared.wires.InWire.{InWire}
use Rattle.tdf_exec_firing.specs.declared.wires.OutWire.{OutWire}

pub record WiresOf : Type 0 where
  pub ins : List InWire
  pub outs : List OutWire

-- each wire is that of a port, and a port that an edge comes to is one that bodies read; it has one
-- such edge at most
pub record ArePlaced (wires : WiresOf) (spans : List PortSpan) : Type 0 where
  pub in_port : (j : ℕ) (w : InWire) → slice_get wires.ins j ≡ Some w → w.port < length spans
  pub in_word : (j : ℕ) (w : InWire) (p : PortSpan) → slice_get wires.ins j ≡ Some w
      → slice_get spans w.port ≡ Some p → is_written p.word ≡ false
  pub in_port_once : (i j : ℕ) (v w : InWire) → slice_get wires.ins i ≡ Some v
      → slice_get wires.ins j ≡ Some w → v.port ≡ w.port → i ≡ j
  pub out_port : (j : ℕ) (w : OutWire) → slice_get wires.outs j ≡ Some w → w.port < length spans

-- each wire is that of an edge, too; an edge has one reader and one writer
pub record AreWired (wires : WiresOf) (spans : List PortSpan) (edges : ℕ) : Type 0 where
  pub placed : ArePlaced wires spans
  pub in_edge : (j : ℕ) (w : InWire) → slice_get wires.ins j ≡ Some w → w.edge < edges
  pub in_edge_once : (i j : ℕ) (v w : InWire) → slice_get wires.ins i ≡ Some v
      → slice_get wires.ins j ≡ Some w → v.edge ≡ w.edge → i ≡ j
  pub out_edge : (j : ℕ) (w : OutWire) → slice_get wires.outs j ≡ Some w → w.edge < edges
  pub out_edge_once : (i j : ℕ) (v w : OutWire) → slice_get wires.outs i ≡ Some v
      → slice_get wires.outs j ≡ Some w → v.edge ≡ w.edge → i ≡ j
