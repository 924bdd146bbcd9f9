use Rattle.std.proofs.Common.{◌≡◌, map, take}
use Rattle.tdf_sim_resumed.specs.Starting.{least_within}
use Rattle.tdf_sim_shown.proofs.missing.least_missing.Given as goal
use Rattle.tdf_sim_shown.specs.machine.Windows.{first_missing}

abbrev pub invariant-loop-k : goal.invariant-loop-k
invariant-loop-k l = l.least ≡ least_within l.time (map (first_missing l.time) (take l.k l.windows))
