use Rattle.tdf_schedule.specs.views.Work.{AreOutputsUpTo}
use Rattle.tdf_schedule.proofs.links.outputs_of.Given as goal

abbrev pub invariant-loop-k : goal.invariant-loop-k
invariant-loop-k l = AreOutputsUpTo l.k l.counts l.edges l.lists
