use Rattle.std.proofs.Common.{◌∙◌, ◌+◌, ap, map, subst, sym}
use Rattle.std.specs.Prelude.{slice_index, slice_index_or}
use Rattle.tdf_bind_tables.specs.FlatTables.{FlatTablesOf}
use Rattle.tdf_dynamic_plans.specs.Rates.{net_ports, rated_edge}
use Rattle.tdf_cluster_net.specs.Made.{ArePickedOf}
use Rattle.tdf_cluster_plans.proofs.Parts.{picked_mapped}
use Rattle.tdf_cluster_plans.proofs.own_parts.own_edges.Goals as goal

pub loop-i-preserved : goal.loop-i-preserved
loop-i-preserved c = subst (ArePickedOf (map (rated_edge c.args.tables.now.ports (net_ports c.args.tables.now c.args.table.now)) c.args.tables.now.edges) c.args.numbers.now (c.loop-i.i + 1)) (sym (c.in_ok-push.ensures).items)
    (picked_mapped (rated_edge c.args.tables.now.ports (net_ports c.args.tables.now c.args.table.now)) c.args.tables.now.edges c.args.numbers.now c.loop-i.i c.loop-i.own.items c.index.result.now c.edge_under-edge.result c.edge_under-edge.ensures
    (c.index.ensures ∙ ap (λ (x : FlatTablesOf). slice_index_or x.edges (slice_index c.args.numbers.now c.loop-i.i) c.index.result.now) c.tables.view_is) (c.requires.inside c.loop-i.i c.loop-i-test.true) c.loop-i.invariant)
