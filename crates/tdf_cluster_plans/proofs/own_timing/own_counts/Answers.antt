use Rattle.std.proofs.Common.{◌∙◌, List, length, ap, arith, refl}
use Rattle.std.specs.Prelude.{Err, vec_len}
use Rattle.tdf_cluster_plans.proofs.OwnCounts.{clusters_told, counts_told, refused_told}
use Rattle.tdf_bind_tables.specs.FlatTables.{FlatTablesOf}
use Rattle.tdf_graph.specs.declared.actors.Actor.{Actor}
use Rattle.tdf_cluster_plans.proofs.own_timing.own_counts.Goals as goal

pub counts-found-requires-clause-clusters : goal.counts-found-requires-clause-clusters
counts-found-requires-clause-clusters c =
    let actors = ap (λ (l : List Actor). length l) c.net.ensures.actors in
    let again = ap (λ (l : List Actor). length l) c.net-2.ensures.actors in
    let ok = c.net-2.result.now.actors.ok in
    let len = c.len.ensures in
    let first_ok = c.net.result.now.actors.ok in
    clusters_told c.args.tables.now c.args.cluster c.args.table.now c.args.own.now c.requires.net c.net-2.result.now.edges.items c.net-2.ensures.edges c.deref.result.now c.len.result
    (c.deref.ensures.value ∙ c.in_ok-clusters.ensures) (omega (arith, actors, len, first_ok)) (vec_len c.net-2.result.now.actors) (omega (arith, again, ok))

pub returns-in_ok-all-in-Ok-clause-counts : goal.returns-in_ok-all-in-Ok-clause-counts
returns-in_ok-all-in-Ok-clause-counts c =
    let actors = ap (λ (l : List Actor). length l) c.net.ensures.actors in
    let len = c.len.ensures in
    let first_ok = c.net.result.now.actors.ok in
    let view = ap (λ (x : FlatTablesOf). length x.actors) c.tables.view_is in
    let all = c.len-in-Ok.ensures in
    counts_told c.args.tables.now c.args.cluster c.args.table.now c.args.own.now c.requires.net c.net-2.result.now.edges.items c.net-2.ensures.edges c.deref.result.now c.len.result
    (c.deref.ensures.value ∙ c.in_ok-clusters.ensures) (omega (arith, actors, len, first_ok)) c.deref-in-Ok.result.now c.in-Ok.counts.items c.in_ok-all-in-Ok.field-0.items c.len-in-Ok.result
    (omega (arith, view, all)) c.deref-in-Ok.ensures.value c.in_ok-all-in-Ok.ensures c.in-Ok.ensures.counts

pub returns-in-Err-clause-refused : goal.returns-in-Err-clause-refused
returns-in-Err-clause-refused c =
    let actors = ap (λ (l : List Actor). length l) c.net.ensures.actors in
    let len = c.len.ensures in
    let first_ok = c.net.result.now.actors.ok in
    refused_told c.args.tables.now c.args.cluster c.args.table.now c.args.own.now c.requires.net c.net-2.result.now.edges.items c.net-2.ensures.edges c.deref.result.now c.len.result
    (c.deref.ensures.value ∙ c.in_ok-clusters.ensures) (omega (arith, actors, len, first_ok)) (Err c.in-Err.why) c.in-Err.ensures.rates c.in-Err.ensures.size c.in-Err.why c.whole_balance.result c.balance_error.result
    refl c.whole_balance.ensures c.balance_error.ensures
