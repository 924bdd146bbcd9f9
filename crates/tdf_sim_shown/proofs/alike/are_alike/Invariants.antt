use Rattle.tdf_sim_shown.proofs.alike.are_alike.Given as goal
use Rattle.tdf_sim_shown.specs.machine.Alike.{AreAlikeTo}

abbrev pub invariant-loop-n : goal.invariant-loop-n
invariant-loop-n l = AreAlikeTo l.traces l.columns l.n
