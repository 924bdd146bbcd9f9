use Rattle.tdf_sim_refinement.specs.machine.Linking.{AreLinkedUpTo}
use Rattle.tdf_sim_refinement.proofs.linking.links_of.Given as goal

abbrev pub invariant-loop-m : goal.invariant-loop-m
invariant-loop-m l = AreLinkedUpTo l.tables l.wanted l.m l.links.list.items
