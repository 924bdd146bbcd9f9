use Rattle.std.proofs.Common.{◌≡◌, ◌∙◌, ◌<◌, ap, length, map}
use Rattle.std.proofs.Math.ListN.{get_or}
use Rattle.std.specs.Prelude.{slice_index_or}
use Rattle.tdf_bind_tables.specs.FlatTables.{FlatTablesOf}
use Rattle.tdf_cluster_plans.proofs.EdgeOnes.{wanted_at}
use Rattle.tdf_cluster_plans.proofs.OwnRates.{set_all, set_more}
use Rattle.tdf_dynamic_plans.specs.Rates.{net_of}
use Rattle.tdf_graph.specs.declared.actors.Edge.{Edge}
use Rattle.tdf_cluster_plans.proofs.own_rates.set_own_rates.Goals as goal

pub loop-i-preserved : goal.loop-i-preserved
loop-i-preserved c =
    let e = get_or c.args.numbers.now c.loop-i.i 0 in
    let low : e < length c.args.tables.now.edges = c.requires.inside c.loop-i.i c.loop-i-test.true in
    let row : c.index-row.result.now ≡ slice_index_or c.args.tables.now.edges e c.index-row.result.now =
    c.index-row.ensures ∙ ap (λ (x : FlatTablesOf). slice_index_or x.edges e c.index-row.result.now) c.tables.view_is in
    record {
      reads = set_more (map (λ (edge : Edge). edge.read_rate) (net_of c.args.tables.now c.args.table.now).edges) c.args.numbers.now c.loop-i.reads.items c.loop-i.i c.loop-i.invariant.reads
          c.edge_under-edge.result.read_rate c.loop-i-test.true
          (wanted_at c.args.tables.now c.args.table.now (λ (edge : Edge). edge.read_rate) e c.index-row.result.now c.edge_under-edge.result low row c.edge_under-edge.ensures);
      writes = set_more (map (λ (edge : Edge). edge.write_rate) (net_of c.args.tables.now c.args.table.now).edges) c.args.numbers.now c.loop-i.writes.items c.loop-i.i c.loop-i.invariant.writes
          c.edge_under-edge.result.write_rate c.loop-i-test.true
          (wanted_at c.args.tables.now c.args.table.now (λ (edge : Edge). edge.write_rate) e c.index-row.result.now c.edge_under-edge.result low row c.edge_under-edge.ensures);
    }

pub returns-clause-reads : goal.returns-clause-reads
returns-clause-reads c = set_all (map (λ (edge : Edge). edge.read_rate) (net_of c.args.tables.now c.args.table.now).edges) c.args.numbers.now c.loop-i.reads.items c.loop-i.i c.loop-i.invariant.reads c.loop-i-test.false

pub returns-clause-writes : goal.returns-clause-writes
returns-clause-writes c = set_all (map (λ (edge : Edge). edge.write_rate) (net_of c.args.tables.now c.args.table.now).edges) c.args.numbers.now c.loop-i.writes.items c.loop-i.i c.loop-i.invariant.writes c.loop-i-test.false
