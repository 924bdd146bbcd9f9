use Rattle.tdf_dynamic.proofs.Spans.{first_at}
use Rattle.tdf_dynamic.specs.machine.Asking.{AreZeroBelow}
use Rattle.tdf_expr.specs.Frames.{ArePortsFit}
use Rattle.tdf_dynamic.proofs.asking.clear_all.Given as goal

abbrev pub invariant-loop-port : goal.invariant-loop-port
invariant-loop-port l = record {
  fit : ArePortsFit l.ports;
  zero : AreZeroBelow (first_at l.initial.ports.spans l.port) l.initial.ports l.ports;
}
