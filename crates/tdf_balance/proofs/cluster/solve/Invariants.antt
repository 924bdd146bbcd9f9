use Rattle.std.proofs.Common.{take}
use Rattle.tdf_balance.specs.Balance.{cluster_edges}
use Rattle.tdf_balance.specs.views.Solution.{AreFine, AreLeast}
use Rattle.tdf_balance.proofs.cluster.solve.Given as goal

abbrev pub invariant-loop-k : goal.invariant-loop-k
invariant-loop-k l = record { fine : AreFine l.edges l.clusters l.cluster l.k; least : AreLeast l.count (cluster_edges l.clusters l.cluster (take l.k l.edges)) l.solution.parts l.solution.counts.items }
