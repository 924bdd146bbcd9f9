use Rattle.tdf_sim_instants.proofs.telling.least_of.Given as goal
use Rattle.tdf_sim_instants.specs.machine.Making.{IsLeastUpTo}

abbrev pub invariant-loop-n : goal.invariant-loop-n
invariant-loop-n l = IsLeastUpTo l.since l.n l.limit l.least
