use Rattle.tdf_sim_traces.proofs.initials.give_all.Given as goal
use Rattle.tdf_sim_traces.specs.machine.Giving.{IsGivingTo}

abbrev pub invariant-loop-k : goal.invariant-loop-k
invariant-loop-k l = IsGivingTo l.tables l.signals l.k l.initial.tracking l.tracking l.initial.trace l.trace
