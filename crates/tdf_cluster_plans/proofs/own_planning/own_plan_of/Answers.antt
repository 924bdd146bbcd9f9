use Rattle.std.proofs.Common.{◌≡◌, ◌∙◌, List, length, ap, arith, refl}
use Rattle.std.specs.Prelude.{Err, Ok}
use Rattle.tdf_bind_tables.specs.FlatTables.{FlatTablesOf}
use Rattle.tdf_cluster_net.specs.Own.{OwnOf}
use Rattle.tdf_cluster_plans.proofs.OwnNets.{edges_long}
use Rattle.tdf_cluster_plans.proofs.OwnPlans.{IsOwnTiming, own_timing, paced_told, plan_told, refused_told}
use Rattle.tdf_dynamic_plans.specs.Rates.{net_of, net_seen}
use Rattle.tdf_graph.specs.declared.actors.Actor.{Actor}
use Rattle.tdf_graph.specs.declared.actors.Edge.{Edge}
use Rattle.tdf_graph.specs.declared.actors.Port.{Port}
use Rattle.tdf_graph.specs.declared.net.Net.{Net}
use Rattle.tdf_cluster_plans.proofs.own_planning.own_plan_of.Goals as goal

seen : (net : Net) (own : OwnOf) → net.actors.items ≡ own.actors → net.edges.items ≡ own.edges → net.ports.items ≡ own.ports → net_seen net ≡ record { actors = own.actors; edges = own.edges; ports = own.ports }
seen net own actors edges ports = ap (λ (xs : List Actor). record { actors = xs; edges = net.edges.items; ports = net.ports.items }) actors
    ∙ ap (λ (xs : List Edge). record { actors = own.actors; edges = xs; ports = net.ports.items }) edges ∙ ap (λ (xs : List Port). record { actors = own.actors; edges = own.edges; ports = xs }) ports

pub plan-requires-clause-paced : goal.plan-requires-clause-paced
plan-requires-clause-paced c =
    let timed : IsOwnTiming c.args.own.now (length (net_of c.args.tables.now c.args.table.now).actors) c.args.timing.now.counts.items c.args.timing.now.steps c.in_ok-counts.counts.items c.in_ok-steps.steps =
    own_timing c.args.tables.now c.args.cluster c.args.table.now c.args.own.now c.requires.net c.args.timing.now.counts.items c.args.timing.now.steps c.requires.timing c.in_ok-counts.counts.items
    c.in_ok-counts.ensures.long c.in_ok-counts.ensures.each c.in_ok-steps.steps c.in_ok-steps.ensures.long c.in_ok-steps.ensures.each c.in_ok-steps.ensures.period in
    paced_told c.args.tables.now c.args.cluster c.args.table.now c.args.own.now c.requires.net c.args.timing.now.counts.items c.args.timing.now.steps c.requires.timing c.in_ok-counts.counts.items c.in_ok-steps.steps timed
    (net_seen c.net.result.now) (seen c.net.result.now c.args.own.now c.net.ensures.actors c.net.ensures.edges c.net.ensures.ports) c.deref.result.now c.deref.ensures.value

pub whole_plan-requires-clause-within : goal.whole_plan-requires-clause-within
whole_plan-requires-clause-within c = λ i less.
    let within = c.requires.net.own_is.edge_numbers.within i less in
    let long = edges_long c.args.tables.now c.args.table.now in
    let view = ap (λ (x : FlatTablesOf). length x.edges) c.tables.view_is in
    let len = c.len.ensures in
    omega (arith, within, long, view, len)

pub returns-in-Ok-clause-plan : goal.returns-in-Ok-clause-plan
returns-in-Ok-clause-plan c =
    let timed : IsOwnTiming c.args.own.now (length (net_of c.args.tables.now c.args.table.now).actors) c.args.timing.now.counts.items c.args.timing.now.steps c.in_ok-counts.counts.items c.in_ok-steps.steps =
    own_timing c.args.tables.now c.args.cluster c.args.table.now c.args.own.now c.requires.net c.args.timing.now.counts.items c.args.timing.now.steps c.requires.timing c.in_ok-counts.counts.items
    c.in_ok-counts.ensures.long c.in_ok-counts.ensures.each c.in_ok-steps.steps c.in_ok-steps.ensures.long c.in_ok-steps.ensures.each c.in_ok-steps.ensures.period in
    let view = ap (λ (x : FlatTablesOf). length x.edges) c.tables.view_is in
    let len = c.len.ensures in
    plan_told c.args.tables.now c.args.cluster c.args.table.now c.args.own.now c.requires.net c.args.timing.now.counts.items c.args.timing.now.steps c.requires.timing c.in_ok-counts.counts.items c.in_ok-steps.steps timed
    (net_seen c.net.result.now) (seen c.net.result.now c.args.own.now c.net.ensures.actors c.net.ensures.edges c.net.ensures.ports) c.deref.result.now c.deref.ensures.value
    (Ok c.in-Ok.plan) c.in-Ok.ensures.too_large c.in-Ok.plan c.whole_plan.result refl c.in-Ok.ensures.deadlock_always c.in-Ok.ensures.noncausal_always c.in-Ok.ensures.plan
    c.len.result (omega (arith, view, len)) c.whole_plan.ensures

pub returns-clause-refused : goal.returns-clause-refused
returns-clause-refused c =
    let timed : IsOwnTiming c.args.own.now (length (net_of c.args.tables.now c.args.table.now).actors) c.args.timing.now.counts.items c.args.timing.now.steps c.in_ok-counts.counts.items c.in_ok-steps.steps =
    own_timing c.args.tables.now c.args.cluster c.args.table.now c.args.own.now c.requires.net c.args.timing.now.counts.items c.args.timing.now.steps c.requires.timing c.in_ok-counts.counts.items
    c.in_ok-counts.ensures.long c.in_ok-counts.ensures.each c.in_ok-steps.steps c.in_ok-steps.ensures.long c.in_ok-steps.ensures.each c.in_ok-steps.ensures.period in
    refused_told c.args.tables.now c.args.cluster c.args.table.now c.args.own.now c.requires.net c.args.timing.now.counts.items c.args.timing.now.steps c.requires.timing c.in_ok-counts.counts.items c.in_ok-steps.steps timed
    (net_seen c.net.result.now) (seen c.net.result.now c.args.own.now c.net.ensures.actors c.net.ensures.edges c.net.ensures.ports) c.deref.result.now c.deref.ensures.value
    (Err c.in-Err.why) c.in-Err.ensures.too_large c.in-Err.ensures.deadlock c.in-Err.ensures.noncausal c.in-Err.why c.whole_planning.result c.plan_error.result refl c.whole_planning.ensures c.plan_error.ensures
