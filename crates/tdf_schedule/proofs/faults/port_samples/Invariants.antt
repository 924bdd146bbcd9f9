use Rattle.std.proofs.Common.{◌≡◌, ◌≤◌, ◌*◌, take}
use Rattle.tdf_schedule.specs.views.Faults.{rate_sum}
use Rattle.tdf_schedule.proofs.faults.port_samples.Given as goal

abbrev pub invariant-loop-k : goal.invariant-loop-k
invariant-loop-k l = record { is : l.total ≡ rate_sum l.counts (take l.k l.ports); small : l.total ≤ l.k * 1073741824 }
