use Rattle.std.proofs.Common.{List, subst, sym}
use Rattle.tdf_convert.specs.declared.links.Link.{Link}
use Rattle.tdf_sim_refinement.proofs.Found.{none_yet}
use Rattle.tdf_sim_refinement.specs.machine.Linking.{AreLinkedUpTo}
use Rattle.tdf_sim_refinement.proofs.linking.links_of.Goals as goal

pub loop-m-init : goal.loop-m-init
loop-m-init c = subst (λ (l : List Link). AreLinkedUpTo c.args.tables.now c.args.wanted 0 l) (sym c.new-links.ensures) (none_yet c.args.tables.now c.args.wanted)
