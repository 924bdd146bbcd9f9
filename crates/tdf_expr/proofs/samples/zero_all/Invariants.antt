use Rattle.std.proofs.Common.{◌≡◌, drop, length}
use Rattle.tdf_expr.proofs.samples.zero_all.Given as goal
use Rattle.tdf_expr.specs.machine.Zeroed.{zeroed}

abbrev pub invariant-loop-stretch : goal.invariant-loop-stretch
invariant-loop-stretch l = record {
  same : zeroed (drop l.stretch-index l.stretches) l.signals ≡ zeroed l.stretches l.initial.signals;
  long : length l.signals.samples ≡ length l.initial.signals.samples;
}
