use Rattle.tdf_schedule.specs.views.Answers.{AreNarrowUpTo}
use Rattle.tdf_schedule.proofs.cluster.narrow.Given as goal

abbrev pub invariant-loop-k : goal.invariant-loop-k
invariant-loop-k l = AreNarrowUpTo l.k l.edges l.counts l.bounds l.list.items
