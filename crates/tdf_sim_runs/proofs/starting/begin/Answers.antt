use Rattle.std.proofs.Common.{◌≡◌, [], List, ℕ, subst, sym, rules}
use Rattle.tdf_sim_instants.specs.Below.{ClusterOf}
use Rattle.tdf_sim_runs.proofs.Beginning.{can_begin, can_start, runs_at_first}
use Rattle.tdf_sim_shown.specs.Below.{CanStart, StartsShowing, clock_at}
use Rattle.tdf_sim_runs.specs.Running.{IsRunning}
use Rattle.tdf_sim_history.specs.Rules.{start_world}
use Rattle.tdf_sim_runs.proofs.starting.begin.Goals as goal

pub new-requires-2 : goal.new-requires-2
new-requires-2 c =
    let can = c.requires.can in
    record { can = c.law_can.ensures.shown can.model c.args.flat.now can.of.sound can.of.is can.of.limits can.runnable }

pub start-requires : goal.start-requires
start-requires c =
    let can = c.requires.can in
    let flat = c.args.flat.now in
    let e = c.in_ok-engine.engine in
    let since : c.deref.result.now ≡ e.since.items = search rules in
    let clusters : c.deref-2.result.now ≡ e.clusters.items = search rules in
    subst (λ (l : List ℕ). CanStart flat (clock_at 0 l c.deref-2.result.now) c.in-Ok.shown) (sym since)
    (subst (λ (l : List ClusterOf). CanStart flat (clock_at 0 e.since.items l) c.in-Ok.shown) (sym clusters)
    (can_start flat c.args.firsts.items e.clusters.items e.since.items c.in_ok-engine.ensures.begun c.in_ok-engine.ensures.since c.law_can.ensures.start
    can.plans can.model can.of c.args.kind c.in-Ok.shown c.in-Ok.ensures))

pub returns-clause-can : goal.returns-clause-can
returns-clause-can c =
    let can = c.requires.can in
    let flat = c.args.flat.now in
    let e = c.in_ok-engine.engine in
    let s = c.in-Ok.shown in
    let t = c.start.new.self in
    let since : c.deref.result.now ≡ e.since.items = search rules in
    let clusters : c.deref-2.result.now ≡ e.clusters.items = search rules in
    can_begin flat c.args.firsts.items e c.args.kind s t can.plans c.in_ok-engine.ensures.begun c.in_ok-engine.ensures.since c.in_ok-engine.ensures.side c.in_ok-engine.ensures.engine.kernel.values c.in-Ok.ensures
    (subst (λ (l : List ℕ). StartsShowing flat (clock_at 0 l e.clusters.items) s t) since
    (subst (λ (l : List ClusterOf). StartsShowing flat (clock_at 0 c.deref.result.now l) s t) clusters c.in_default.ensures.shown))
    (record { engine = e; shown = t; from = 0; left = c.args.turns; news = c.new-3.result }) c.new-3.ensures.items c.in_ok-engine.ensures.engine c.in_ok-engine.ensures.ready c.in_ok-engine.ensures.none c.start.ensures.upto
    can.of.limits.in_range can.model can.of c.args.turns

pub returns-clause-runs : goal.returns-clause-runs
returns-clause-runs c = λ model m.
    let flat = c.args.flat.now in
    let e = c.in_ok-engine.engine in
    let s = c.in-Ok.shown in
    let t = c.start.new.self in
    let since : c.deref.result.now ≡ e.since.items = search rules in
    let clusters : c.deref-2.result.now ≡ e.clusters.items = search rules in
    subst (IsRunning model flat (start_world model flat c.args.firsts.items [] c.args.turns) 0 e c.args.turns t) (sym c.new-3.ensures.items)
    (runs_at_first flat c.args.firsts.items e c.args.kind s t c.requires.can.plans c.in_ok-engine.ensures.begun c.in_ok-engine.ensures.since c.in_ok-engine.ensures.side c.in_ok-engine.ensures.engine.kernel.values c.in-Ok.ensures
    (subst (λ (l : List ℕ). StartsShowing flat (clock_at 0 l e.clusters.items) s t) since
    (subst (λ (l : List ClusterOf). StartsShowing flat (clock_at 0 c.deref.result.now l) s t) clusters c.in_default.ensures.shown))
    c.args.turns model m)
