use Rattle.std.proofs.Common.{◌∙◌, ◌<◌, ap, refl, sym, subst}
use Rattle.std.proofs.lemmas.Result.{IfOk-weaker}
use Rattle.tdf_bind_tables.specs.FlatTables.{FlatTablesOf}
use Rattle.tdf_cluster_net.specs.Made.{IsMadeOf}
use Rattle.tdf_cluster_plans.proofs.Parts.{actors_within, edges_told, edges_within, in_groups, net_told, ports_told, ports_within}
use Rattle.tdf_cluster_plans.specs.Own.{IsNetOfCluster}
use Rattle.tdf_cluster_plans.proofs.plans.own_net.Goals as goal

pub actors-actor_numbers-requires : goal.actors-actor_numbers-requires
actors-actor_numbers-requires c = subst (λ n. c.args.cluster < n) (sym c.requires.groups.actors.long) (in_groups c.args.tables.now c.args.cluster c.args.table.now c.args.groups.now c.requires.wired c.requires.has c.requires.rates c.requires.groups)

pub edges-edge_numbers-requires : goal.edges-edge_numbers-requires
edges-edge_numbers-requires c = subst (λ n. c.args.cluster < n) (sym c.requires.groups.edges.long) (in_groups c.args.tables.now c.args.cluster c.args.table.now c.args.groups.now c.requires.wired c.requires.has c.requires.rates c.requires.groups)

pub ports-port_numbers-requires : goal.ports-port_numbers-requires
ports-port_numbers-requires c = subst (λ n. c.args.cluster < n) (sym c.requires.groups.ports.long) (in_groups c.args.tables.now c.args.cluster c.args.table.now c.args.groups.now c.requires.wired c.requires.has c.requires.rates c.requires.groups)

pub own_actors-requires : goal.own_actors-requires
own_actors-requires c = actors_within c.args.tables.now c.args.cluster c.args.table.now c.args.groups.now c.requires.wired c.requires.has c.requires.rates c.requires.groups c.actors-actor_numbers.result.now c.actors-actor_numbers.ensures
    c.deref.result.now (c.deref.ensures.value ∙ ap (λ (x : FlatTablesOf). x.actors) c.tables.view_is)

pub own_edges-requires-clause-inside : goal.own_edges-requires-clause-inside
own_edges-requires-clause-inside c = edges_within c.args.tables.now c.args.cluster c.args.table.now c.args.groups.now c.requires.wired c.requires.has c.requires.rates c.requires.groups c.edges-edge_numbers.result.now c.edges-edge_numbers.ensures

pub own_ports-requires-clause-inside : goal.own_ports-requires-clause-inside
own_ports-requires-clause-inside c = ports_within c.args.tables.now c.args.cluster c.args.table.now c.args.groups.now c.requires.wired c.requires.has c.requires.rates c.requires.groups c.ports-port_numbers.result.now c.ports-port_numbers.ensures
    c.deref-2.result.now (c.deref-2.ensures.value ∙ ap (λ (x : FlatTablesOf). x.ports) c.tables.view_is)

pub made-requires-clause-edges_among : goal.made-requires-clause-edges_among
made-requires-clause-edges_among c = edges_told c.args.tables.now c.args.cluster c.args.table.now c.args.groups.now c.requires.wired c.requires.has c.requires.rates c.requires.groups c.actors-actor_numbers.result.now c.edges-edge_numbers.result.now
    c.actors-actor_numbers.ensures c.edges-edge_numbers.ensures c.in_ok-edges.edges.items c.deref-3.result.now c.deref-3.ensures.value c.in_ok-edges.ensures

pub made-requires-clause-ports_among : goal.made-requires-clause-ports_among
made-requires-clause-ports_among c = ports_told c.args.tables.now c.args.cluster c.args.table.now c.args.groups.now c.requires.wired c.requires.has c.requires.rates c.requires.groups c.actors-actor_numbers.result.now c.ports-port_numbers.result.now
    c.actors-actor_numbers.ensures c.ports-port_numbers.ensures c.deref-2.result.now (c.deref-2.ensures.value ∙ ap (λ (x : FlatTablesOf). x.ports) c.tables.view_is)
    c.in_ok-ports.ports.items c.deref-4.result.now c.deref-4.ensures.value c.in_ok-ports.ensures

pub returns : goal.returns
returns c = IfOk-weaker c.made.result (IsMadeOf (record { actor_numbers = c.actors-actor_numbers.result.now; edge_numbers = c.edges-edge_numbers.result.now; port_numbers = c.ports-port_numbers.result.now; actors = c.in_ok-actors.actors.items; edges = c.deref-3.result.now; ports = c.deref-4.result.now }))
    (IsNetOfCluster c.args.tables.now c.args.cluster c.args.table.now)
    (λ own made. net_told c.args.tables.now c.args.cluster c.args.table.now c.args.groups.now c.requires.wired c.requires.has c.requires.rates c.requires.groups (record { actor_numbers = c.actors-actor_numbers.result.now; edge_numbers = c.edges-edge_numbers.result.now; port_numbers = c.ports-port_numbers.result.now; actors = c.in_ok-actors.actors.items; edges = c.deref-3.result.now; ports = c.deref-4.result.now }) own
    c.actors-actor_numbers.ensures c.edges-edge_numbers.ensures c.ports-port_numbers.ensures
    c.deref.result.now (c.deref.ensures.value ∙ ap (λ (x : FlatTablesOf). x.actors) c.tables.view_is)
    c.deref-2.result.now (c.deref-2.ensures.value ∙ ap (λ (x : FlatTablesOf). x.ports) c.tables.view_is)
    c.in_ok-actors.actors.items refl c.in_ok-actors.ensures
    c.in_ok-edges.edges.items c.deref-3.ensures.value c.in_ok-edges.ensures
    c.in_ok-ports.ports.items c.deref-4.ensures.value c.in_ok-ports.ensures
    made) c.made.ensures
