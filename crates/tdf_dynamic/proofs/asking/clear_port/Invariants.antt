use Rattle.std.proofs.Common.{◌≡◌, ◌+◌, length, Some}
use Rattle.std.specs.Prelude.{slice_get}
use Rattle.tdf_dynamic.specs.machine.Asking.{AreZeroBelow}
use Rattle.tdf_expr.specs.Frames.{PortsSeen}
use Rattle.tdf_expr.specs.declared.spans.PortSpan.{PortSpan}
use Rattle.tdf_dynamic.proofs.asking.clear_port.Given as goal

abbrev pub invariant-loop-i : goal.invariant-loop-i
invariant-loop-i l = record {
  same : l.ports.spans ≡ l.initial.ports.spans;
  long : length l.ports.state.samples ≡ length l.initial.ports.state.samples;
  zero : (p : PortSpan) (before : PortsSeen) → slice_get l.initial.ports.spans l.port ≡ Some p → AreZeroBelow p.first before l.initial.ports → AreZeroBelow (p.first + l.i) before l.ports;
}
