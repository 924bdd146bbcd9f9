use Rattle.std.proofs.Common.{take}
use Rattle.tdf_cluster_plans.specs.Counted.{AreCounted}
use Rattle.tdf_cluster_plans.proofs.counting.set_firings.Given as goal

abbrev pub invariant-loop-seen : goal.invariant-loop-seen
invariant-loop-seen l = AreCounted l.numbers (take l.seen l.entries) l.counts.items
