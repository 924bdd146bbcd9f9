use Rattle.std.proofs.Common.{◌≡◌, ◌<◌, ◌*◌, length}
use Rattle.tdf_sampling.proofs.choosing.steps.Given as goal
use Rattle.tdf_sampling.specs.machine.Choosing.{IsLeft, every_upto}
use Rattle.tdf_sampling.specs.machine.Windows.{rows_of}

abbrev pub invariant-loop-k : goal.invariant-loop-k
invariant-loop-k l = record {
  some : 0 < length l.rest;
  left : IsLeft (rows_of l.rows) (l.k * l.step) (rows_of l.rest);
  chosen : rows_of l.chosen.items ≡ every_upto l.step (rows_of l.rows) l.k;
}
