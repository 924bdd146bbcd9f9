use Rattle.std.proofs.Common.{◌+◌, List, rules, subst, sym}
use Rattle.tdf_convert.specs.declared.links.Links.{Links}
use Rattle.tdf_sim_refinement.proofs.Gathered.{without_more, without_none}
use Rattle.tdf_sim_refinement.specs.machine.Linking.{AreWithoutLinks}
use Rattle.tdf_sim_refinement.proofs.linking.no_links.Goals as goal

pub loop-init : goal.loop-init
loop-init c = without_none _ (search rules)

pub loop-preserved : goal.loop-preserved
loop-preserved c =
    subst (λ (l : List Links). AreWithoutLinks (c.loop.counter + 1) l) (sym c.in_ok-push.ensures.items) (without_more c.loop.counter c.loop.links.items c.new-own.result c.loop.invariant c.new-own.ensures)
