use Rattle.std.proofs.Common.{◌≡◌, ◌++◌}
use Rattle.tdf_save.specs.Text.{saved_cluster}
use Rattle.tdf_save.proofs.Each.{each_before}
use Rattle.tdf_save.proofs.parts.push_clusters.Given as goal

abbrev pub invariant-loop-k : goal.invariant-loop-k
invariant-loop-k l = l.out.items ≡ l.initial.out.items ++ each_before saved_cluster l.members l.states l.k
