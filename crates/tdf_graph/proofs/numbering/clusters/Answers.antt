use Rattle.std.proofs.Common.{subst, List}
use Rattle.tdf_graph.proofs.Numbers.{are_clusters}
use Rattle.tdf_graph.specs.Clusters.{AreClusters}
use Rattle.tdf_graph.specs.declared.actors.Edge.{Edge}
use Rattle.tdf_graph.proofs.numbering.clusters.Goals as goal

pub returns : goal.returns
returns c = subst (λ n. AreClusters n c.args.net.now.edges.items c.in_ok-numbers.numbers.items) c.len-count.ensures
    (subst (λ (es : List Edge). AreClusters c.len-count.result es c.in_ok-numbers.numbers.items) c.deref.ensures.value
    (are_clusters c.len-count.result c.deref.result.now c.in_ok-parts.parts c.in_ok-numbers.numbers.items c.in_ok-parts.ensures c.in_ok-numbers.ensures))
