use Rattle.tdf_save.specs.Members.{IsClusterFor}
use Rattle.tdf_save.specs.Text.{saved_cluster}
use Rattle.tdf_save.specs.machine.Pieces.{Any}
use Rattle.tdf_save_reading.proofs.ReadSteps.{HasEach}
use Rattle.tdf_save_reading.proofs.clusters.read_clusters.Given as goal

abbrev pub invariant-loop-k : goal.invariant-loop-k
invariant-loop-k l = HasEach saved_cluster IsClusterFor Any l.members l.text l.k l.list.items l.rest
