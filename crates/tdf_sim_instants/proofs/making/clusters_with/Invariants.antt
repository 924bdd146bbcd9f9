use Rattle.tdf_sim_instants.proofs.making.clusters_with.Given as goal
use Rattle.tdf_sim_instants.specs.machine.Making.{HaveBegunWith}

abbrev pub invariant-loop-first : goal.invariant-loop-first
invariant-loop-first l = HaveBegunWith l.flat l.yielded l.clusters.items l.layout
