use Rattle.tdf_schedule.specs.views.Work.{AreInputsUpTo}
use Rattle.tdf_schedule.proofs.links.inputs_of.Given as goal

abbrev pub invariant-loop-k : goal.invariant-loop-k
invariant-loop-k l = AreInputsUpTo l.k l.counts l.edges l.lists
