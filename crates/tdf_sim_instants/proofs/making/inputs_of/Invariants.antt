use Rattle.tdf_sim_instants.proofs.making.inputs_of.Given as goal
use Rattle.tdf_sim_instants.specs.machine.Making.{AreGivenUpTo}

abbrev pub invariant-loop-n : goal.invariant-loop-n
invariant-loop-n l = AreGivenUpTo l.links l.n l.inputs.items
