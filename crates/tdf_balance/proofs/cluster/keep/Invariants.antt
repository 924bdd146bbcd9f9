use Rattle.tdf_balance.specs.views.Solution.{KeptUpTo}
use Rattle.tdf_balance.proofs.cluster.keep.Given as goal

abbrev pub invariant-loop-actor : goal.invariant-loop-actor
invariant-loop-actor l = KeptUpTo l.actor l.clusters l.cluster l.initial.counts.items l.counts.items
