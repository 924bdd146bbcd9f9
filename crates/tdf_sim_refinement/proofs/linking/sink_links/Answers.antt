use Rattle.std.proofs.Common.{length}
use Rattle.std.proofs.lemmas.Result.{IfOk-weaker}
use Rattle.tdf_sim_refinement.proofs.Found.{sink_links_are}
use Rattle.tdf_sim_refinement.specs.Linked.{AreSinkLinks}
use Rattle.tdf_sim_refinement.specs.declared.linking.Wanted.TheVariants.{Sinks}
use Rattle.tdf_sim_refinement.specs.machine.Linking.{AreLinkedUpTo}
use Rattle.tdf_sim_refinement.proofs.linking.sink_links.Goals as goal

pub returns : goal.returns
returns c = record {
  links = IfOk-weaker c.links_of.result (λ links. AreLinkedUpTo c.args.tables.now Sinks (length c.args.tables.now.actors) links.list.items)
      (λ links. AreSinkLinks c.args.tables.now links.list.items) (λ links are. sink_links_are c.args.tables.now links.list.items are) c.links_of.ensures;
}
