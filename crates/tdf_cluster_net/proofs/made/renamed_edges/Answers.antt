use Rattle.std.proofs.Common.{◌∙◌, ◌+◌, Some, ap, subst, sym}
use Rattle.std.proofs.lemmas.List.Elements.{All-get_or}
use Rattle.std.proofs.lemmas.Option.{slice_get-get_or}
use Rattle.tdf_cluster_net.proofs.Renaming.{renamed_edge_more}
use Rattle.tdf_cluster_net.specs.Made.{AreRenamedEdges, IsEdgeAmong}
use Rattle.tdf_cluster_net.proofs.made.renamed_edges.Goals as goal

pub own_edge-edge-requires-clause-writer : goal.own_edge-edge-requires-clause-writer
own_edge-edge-requires-clause-writer c = (All-get_or (IsEdgeAmong c.args.numbers.now) c.args.edges.now c.loop-i.i (record { writer = 0; reader = 0; write_rate = 0; read_rate = 0; initial = 0 }) c.loop-i-test.true c.requires.among).writer

pub own_edge-edge-requires-clause-reader : goal.own_edge-edge-requires-clause-reader
own_edge-edge-requires-clause-reader c = (All-get_or (IsEdgeAmong c.args.numbers.now) c.args.edges.now c.loop-i.i (record { writer = 0; reader = 0; write_rate = 0; read_rate = 0; initial = 0 }) c.loop-i-test.true c.requires.among).reader

pub loop-i-preserved : goal.loop-i-preserved
loop-i-preserved c = subst (AreRenamedEdges c.args.numbers.now c.args.edges.now (c.loop-i.i + 1)) (sym (c.in_ok-push.ensures).items)
    (renamed_edge_more c.args.numbers.now c.args.edges.now c.loop-i.i c.loop-i.own.items c.own_edge-edge.result
    (slice_get-get_or c.args.edges.now c.loop-i.i (record { writer = 0; reader = 0; write_rate = 0; read_rate = 0; initial = 0 }) c.loop-i-test.true ∙ ap Some (sym c.own_edge-edge.ensures.whole))
    c.own_edge-edge.ensures.writer c.own_edge-edge.ensures.reader c.loop-i.invariant)
