use Rattle.tdf_sim_resumed.proofs.making.clusters_with.Given as goal
use Rattle.tdf_sim_resumed.specs.machine.Making.{AreMadeWith}

abbrev pub invariant-loop-n : goal.invariant-loop-n
invariant-loop-n l = AreMadeWith l.flat l.states l.time l.n l.clusters.items l.layout
