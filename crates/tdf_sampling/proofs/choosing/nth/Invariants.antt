use Rattle.std.proofs.Common.{◌≡◌, take}
use Rattle.tdf_sampling.proofs.choosing.nth.Given as goal
use Rattle.tdf_sampling.specs.Choice.{nth}
use Rattle.tdf_sampling.specs.machine.Windows.{rows_of}

abbrev pub invariant-loop-place : goal.invariant-loop-place
invariant-loop-place l = rows_of l.chosen.items ≡ nth l.step (rows_of (take l.place l.rows))
