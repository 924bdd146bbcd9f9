use Rattle.tdf_graph.proofs.Labels.{labels_alone, labels_step}
use Rattle.tdf_graph.proofs.numbering.connected.Goals as goal

pub loop-edge-init : goal.loop-edge-init
loop-edge-init c = labels_alone c.args.count c.in_ok-parts.parts c.in_ok-parts.ensures

pub loop-edge-preserved : goal.loop-edge-preserved
loop-edge-preserved c = labels_step c.args.count c.loop-edge.edge-index c.args.edges.now c.loop-edge.parts c.in_ok-parts-2.parts _ c.requires
    c.loop-edge-test.true c.loop-edge.invariant c.in_ok-parts-2.ensures
