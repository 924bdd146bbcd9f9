use Rattle.std.proofs.Common.{◌-◌, ◌^◌}
use Rattle.tdf_trace.specs.machine.Turning.{AreTurned, IsNext}
use Rattle.tdf_trace.proofs.columns.turn_all.Given as goal

abbrev pub invariant-loop-i : goal.invariant-loop-i
invariant-loop-i l = record {
  turned : AreTurned l.time l.i l.initial.columns.items l.columns.items;
  next : IsNext l.columns.items l.i (2 ^ 64 - 1) l.least;
}
