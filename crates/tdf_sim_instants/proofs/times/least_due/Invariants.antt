use Rattle.tdf_sim_instants.proofs.times.least_due.Given as goal
use Rattle.tdf_sim_instants.specs.Times.{IsLeastDue}

abbrev pub invariant-loop-n : goal.invariant-loop-n
invariant-loop-n l = IsLeastDue l.clusters l.since l.n l.limit l.least
