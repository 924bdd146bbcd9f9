use Rattle.tdf_sim_refinement.proofs.linking.no_links.Given as goal
use Rattle.tdf_sim_refinement.specs.machine.Linking.{AreWithoutLinks}

abbrev pub invariant-loop : goal.invariant-loop
invariant-loop l = AreWithoutLinks l.counter l.links.items
