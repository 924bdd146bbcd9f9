use Rattle.std.proofs.Common.{◌∙◌, ◌+◌, ◌<◌, List, ap, arith, map, subst, sym}
use Rattle.std.specs.Prelude.{All, length}
use Rattle.tdf_bind_connections.specs.declared.edges.EdgeRow.{EdgeRow}
use Rattle.tdf_bind_connections.specs.declared.modules.PortRow.{PortRow}
use Rattle.tdf_bind_tables.specs.FlatTables.{FlatTablesOf}
use Rattle.tdf_cluster_plans.proofs.Clustering.{actors_below, edges_below, modules_below, modules_inside, ports_below}
use Rattle.tdf_cluster_plans.specs.Groups.{edge_cluster, port_cluster}
use Rattle.tdf_cluster_plans.proofs.groups.TableGroups.of.Goals as goal

pub port_clusters-requires : goal.port_clusters-requires
port_clusters-requires c = subst (All (λ (port : PortRow). port.«module» < length c.deref-4.result.now)) (sym (c.deref-3.ensures.value ∙ ap (λ (x : FlatTablesOf). x.ports) c.tables.view_is))
    (modules_inside c.args.tables.now c.requires.wired (c.args.count + 1) (let most = c.requires.count in omega (arith, most)) c.deref-4.result.now (c.deref-4.ensures.value ∙ c.in_ok-clusters.ensures.numbers))

pub of-requires-clause-clusters : goal.of-requires-clause-clusters
of-requires-clause-clusters c =
    actors_below c.args.tables.now c.requires.wired (c.args.count + 1) (let most = c.requires.count in omega (arith, most)) c.deref-5.result.now (c.deref-5.ensures.value ∙ c.in_ok-clusters.ensures.numbers)

pub of-requires-2-clause-clusters : goal.of-requires-2-clause-clusters
of-requires-2-clause-clusters c =
    edges_below c.args.tables.now c.requires.wired (c.args.count + 1) (let most = c.requires.count in omega (arith, most)) c.deref-2.result.now (c.deref-2.ensures.value ∙ c.in_ok-clusters.ensures.numbers) c.deref-6.result.now
    (c.deref-6.ensures.value ∙ c.in_ok-of_edges.ensures ∙ ap (λ (rows : List EdgeRow). map (edge_cluster c.deref-2.result.now) rows) (c.deref.ensures.value ∙ ap (λ (x : FlatTablesOf). x.edges) c.tables.view_is))

pub of-requires-3-clause-clusters : goal.of-requires-3-clause-clusters
of-requires-3-clause-clusters c =
    ports_below c.args.tables.now c.requires.wired (c.args.count + 1) (let most = c.requires.count in omega (arith, most)) c.deref-4.result.now (c.deref-4.ensures.value ∙ c.in_ok-clusters.ensures.numbers) c.deref-7.result.now
    (c.deref-7.ensures.value ∙ c.in_ok-of_ports.ensures ∙ ap (λ (rows : List PortRow). map (port_cluster c.deref-4.result.now) rows) (c.deref-3.ensures.value ∙ ap (λ (x : FlatTablesOf). x.ports) c.tables.view_is))

pub of-requires-4-clause-clusters : goal.of-requires-4-clause-clusters
of-requires-4-clause-clusters c = modules_below c.args.tables.now c.requires.wired c.len-4.result
    (let n = c.len-4.ensures in let v = ap (λ (x : FlatTablesOf). length x.actors) c.tables.view_is in omega (arith, n, v)) c.deref-9.result.now
    (c.deref-9.ensures.value ∙ c.in_ok-modules.ensures ∙ ap (λ (rows : List PortRow). map (λ (port : PortRow). port.«module») rows) (c.deref-8.ensures.value ∙ ap (λ (x : FlatTablesOf). x.ports) c.tables.view_is))
