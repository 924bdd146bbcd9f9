use Rattle.std.proofs.Common.{◌≡◌, take}
use Rattle.tdf_sim_shown.proofs.resumed.count_from.Given as goal
use Rattle.tdf_sim_shown.specs.machine.Resuming.{given_from}

abbrev pub invariant-loop-i : goal.invariant-loop-i
invariant-loop-i l = l.count ≡ given_from l.time (take l.i l.samples)
