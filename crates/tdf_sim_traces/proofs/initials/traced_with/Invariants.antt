use Rattle.std.proofs.Common.{◌≡◌, take}
use Rattle.tdf_sim_traces.proofs.initials.traced_with.Given as goal
use Rattle.tdf_sim_traces.specs.machine.Giving.{traced_with}

abbrev pub invariant-loop-j : goal.invariant-loop-j
invariant-loop-j l = l.list.items ≡ traced_with l.signal (take l.j l.values)
