use Rattle.std.proofs.Common.{length, take}
use Rattle.tdf_sampling.proofs.groups.measure.Given as goal
use Rattle.tdf_sampling.specs.machine.Measures.{AreMeasured}
use Rattle.tdf_sampling.specs.machine.Windows.{rows_of}

abbrev pub invariant-loop-place : goal.invariant-loop-place
invariant-loop-place l = AreMeasured (length l.fn.columns.items) (rows_of (take l.place l.rows)) l.columns.items
