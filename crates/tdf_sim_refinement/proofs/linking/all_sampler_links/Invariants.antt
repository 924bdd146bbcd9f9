use Rattle.tdf_sim_refinement.proofs.linking.all_sampler_links.Given as goal
use Rattle.tdf_sim_refinement.specs.machine.Linking.{AreAllLinkedUpTo}

abbrev pub invariant-loop-m : goal.invariant-loop-m
invariant-loop-m l = AreAllLinkedUpTo l.tables l.count l.m l.links.items
