use Rattle.std.proofs.Common.{subst, sym, List}
use Rattle.std.specs.Prelude.{All, Ok}
use Rattle.tdf_balance.proofs.Answered.{answered}
use Rattle.tdf_balance.specs.views.Results.{IsSolved}
use Rattle.tdf_graph.specs.Clusters.{AreClusters}
use Rattle.tdf_graph.specs.Ranges.{IsEdge}
use Rattle.tdf_graph.specs.declared.actors.Edge.{Edge}
use Rattle.tdf_balance.proofs.cluster.answer.Goals as goal

pub returns-in-Ok : goal.returns-in-Ok
returns-in-Ok c = answered c.len.result c.args.net.now.edges.items c.args.clusters.now c.args.cluster c.in-Ok.solution c.finish.result
    (subst (λ n. All (IsEdge n) c.args.net.now.edges.items) (sym c.len.ensures) c.args.net.now.in_range.edges_fit)
    (subst (λ n. AreClusters n c.args.net.now.edges.items c.args.clusters.now) (sym c.len.ensures) c.requires.clusters) c.requires.has
    (subst (λ (es : List Edge). IsSolved c.len.result es c.args.clusters.now c.args.cluster (Ok c.in-Ok.solution)) c.deref.ensures.value c.in-Ok.ensures)
    c.finish.ensures
