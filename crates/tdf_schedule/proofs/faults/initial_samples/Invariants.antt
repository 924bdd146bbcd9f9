use Rattle.std.proofs.Common.{◌≡◌, ◌≤◌, ◌*◌, take}
use Rattle.tdf_schedule.specs.views.Faults.{initial_sum}
use Rattle.tdf_schedule.proofs.faults.initial_samples.Given as goal

abbrev pub invariant-loop-k : goal.invariant-loop-k
invariant-loop-k l = record { is : l.total ≡ initial_sum l.counts (take l.k l.edges); small : l.total ≤ l.k * 131072 }
