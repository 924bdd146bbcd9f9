use Rattle.std.proofs.Common.{rules, ◌≡◌, ◌∙◌, ℕ, List, None, ap, arith, length, subst, sym, true}
use Rattle.tdf_cluster_net.specs.Numbers.{Rise}
use Rattle.tdf_cluster_plans.specs.Counted.{AreCounted}
use Rattle.tdf_dynamic_plans.specs.Known.{AttrsTable}
use Rattle.tdf_exec.proofs.Installing.{can_restart, fit_in, has}
use Rattle.tdf_exec.proofs.Others.{all_edges, no_bound, rates_one}
use Rattle.tdf_exec.specs.Cluster.{ClusterOf, next_offset}
use Rattle.tdf_exec.specs.Crossing.{IsReadyFor, with_new_plan}
use Rattle.tdf_exec.specs.contracts.cluster.Cluster.{the_view}
use Rattle.tdf_exec.specs.machine.Restarting.{AreRestarted}
use Rattle.tdf_exec.specs.views.Actors.{ActorsOf}
use Rattle.tdf_exec_firing.specs.Edges.{EdgesOf}
use Rattle.tdf_rings.specs.Carried.{AreCarried}
use Rattle.tdf_rings.specs.Rings.{RingOf}
use Rattle.tdf_schedule.specs.declared.entry.Entry.{Entry}
use Rattle.tdf_streams.proofs.Api.{are_rates}
use Rattle.tdf_exec.proofs.cluster.Cluster.begin_new.Goals as goal

pub carry-requires-clause-fit : goal.carry-requires-clause-fit
carry-requires-clause-fit c =
    let ready : IsReadyFor c.args.flat.now (the_view c.self.inside) c.args.attrs c.args.plan =
    subst (λ (s : ClusterOf). IsReadyFor c.args.flat.now s c.args.attrs c.args.plan) (sym c.self.view_is) c.requires.ready in
    let end : next_offset (the_view c.self.inside) ≡ None = ready.of.over (subst (λ (s : ClusterOf). s.crossed ≡ true) (sym c.self.view_is) c.requires.crossed) in
    fit_in c.args.flat.now (the_view c.self.inside) c.args.attrs c.args.plan ready (c.law_laid.ensures.laid c.args.flat.now c.requires.sound) c.law_laid.ensures.present c.requires.sound end

pub carry-requires-clause-others : goal.carry-requires-clause-others
carry-requires-clause-others c =
    let ready : IsReadyFor c.args.flat.now (the_view c.self.inside) c.args.attrs c.args.plan =
    subst (λ (s : ClusterOf). IsReadyFor c.args.flat.now s c.args.attrs c.args.plan) (sym c.self.view_is) c.requires.ready in
    no_bound c.args.flat.now (the_view c.self.inside) c.args.attrs c.args.plan ready (c.law_laid.ensures.laid c.args.flat.now c.requires.sound) c.law_laid.ensures.present

pub restart_actors-requires-clause-rates : goal.restart_actors-requires-clause-rates
restart_actors-requires-clause-rates c =
    are_rates c.args.flat.now (c.law_laid.ensures.laid c.args.flat.now c.requires.sound).limits c.args.attrs.rows c.requires.ready.attributes.allowed

pub restart_actors-requires-clause-once : goal.restart_actors-requires-clause-once
restart_actors-requires-clause-once c = c.requires.ready.rows.once

pub restart_actors-requires-clause-can : goal.restart_actors-requires-clause-can
restart_actors-requires-clause-can c =
    let ready : IsReadyFor c.args.flat.now (the_view c.self.inside) c.args.attrs c.args.plan =
    subst (λ (s : ClusterOf). IsReadyFor c.args.flat.now s c.args.attrs c.args.plan) (sym c.self.view_is) c.requires.ready in
    can_restart c.args.flat.now (the_view c.self.inside) c.args.attrs c.args.plan ready

pub set_rates-requires-clause-rates : goal.set_rates-requires-clause-rates
set_rates-requires-clause-rates c =
    are_rates c.args.flat.now (c.law_laid.ensures.laid c.args.flat.now c.requires.sound).limits c.args.attrs.rows c.requires.ready.attributes.allowed

pub set_rates-requires-clause-all : goal.set_rates-requires-clause-all
set_rates-requires-clause-all c =
    let carried : AreCarried c.args.plan.bounds.items c.args.self.now.rings c.carry.new.self.rings = search rules in
    all_edges c.args.flat.now c.args.self.now c.args.attrs c.args.plan c.requires.ready (c.law_laid.ensures.laid c.args.flat.now c.requires.sound) c.law_laid.ensures.present c.carry.new.self.rings carried

pub set_rates-requires-clause-others : goal.set_rates-requires-clause-others
set_rates-requires-clause-others c =
    let carried : AreCarried c.args.plan.bounds.items c.args.self.now.rings c.carry.new.self.rings = search rules in
    rates_one c.args.flat.now c.args.self.now c.args.attrs c.args.plan c.requires.ready (c.law_laid.ensures.laid c.args.flat.now c.requires.sound) c.law_laid.ensures.present c.carry.new.self.rings carried

pub set_firings-requires-clause-long : goal.set_firings-requires-clause-long
set_firings-requires-clause-long c = c.self.invariant.counted.long ∙ ap (λ (l : List ℕ). length l) (sym c.deref.ensures.value)

pub set_firings-requires-clause-rising : goal.set_firings-requires-clause-rising
set_firings-requires-clause-rising c = subst Rise (sym c.deref.ensures.value) c.self.invariant.rising

pub invariant_of-self-2 : goal.invariant_of-self-2
invariant_of-self-2 c =
    let ready : IsReadyFor c.args.flat.now (the_view c.self.inside) c.args.attrs c.args.plan =
    subst (λ (s : ClusterOf). IsReadyFor c.args.flat.now s c.args.attrs c.args.plan) (sym c.self.view_is) c.requires.ready in
    let end : next_offset (the_view c.self.inside) ≡ None = ready.of.over (subst (λ (s : ClusterOf). s.crossed ≡ true) (sym c.self.view_is) c.requires.crossed) in
    let h = has c.args.flat.now (the_view c.self.inside) c.args.attrs c.args.plan ready (c.law_laid.ensures.laid c.args.flat.now c.requires.sound) c.law_laid.ensures.present c.requires.sound end in
    let long = ready.long in let room = c.self.invariant.room in let kept = ap (λ (t : AttrsTable). length t.rows) (c.recycle.ensures.same ∙ c.replace-left.ensures.after) in
    let counted : AreCounted c.self.inside.counted.items c.args.plan.entries.items c.set_firings.new.counts.items =
    subst (λ (l : List Entry). AreCounted c.self.inside.counted.items l c.set_firings.new.counts.items) c.deref-2.ensures.value
    (subst (λ (l : List ℕ). AreCounted l c.deref-2.result.now c.set_firings.new.counts.items) c.deref.ensures.value c.set_firings.ensures) in
    record { sorted = c.law_laid.ensures.sorted _ _ _ c.args.plan.entries.items h.plan_is.planned; rising = c.self.invariant.rising; counted = counted; room = omega (arith, long, room, kept) }

pub returns-clause-ok : goal.returns-clause-ok
returns-clause-ok c =
    let carried : AreCarried c.args.plan.bounds.items c.args.self.now.rings c.carry.new.self.rings = search rules in
    let tables = c.args.flat.now.tables in
    let edges = c.set_rates.new.edges in
    let runners = c.restart_actors.new.actors.runners in
    let same = c.recycle.ensures.same ∙ c.replace-left.ensures.after in
    record {
      d_is = ap (λ (t : AttrsTable). record (with_new_plan (the_view c.self.inside) t c.args.plan edges.reads edges.writes edges.rings runners) { positions = c.restart_actors.new.actors.positions }) same
          ∙ ap (λ (a : ActorsOf). record (with_new_plan (the_view c.self.inside) c.args.attrs c.args.plan edges.reads edges.writes edges.rings runners) { positions = a.positions }) c.restart_actors.ensures.rest
          ∙ ap (λ (s : ClusterOf). with_new_plan s c.args.attrs c.args.plan edges.reads edges.writes edges.rings runners) c.self.view_is;
      reads_are = ap (λ (x : EdgesOf). x.reads) c.set_rates.ensures;
      writes_are = ap (λ (x : EdgesOf). x.writes) c.set_rates.ensures;
      carried = subst (λ (l : List RingOf). AreCarried c.args.plan.bounds.items c.args.self.now.rings l) (sym (ap (λ (x : EdgesOf). x.rings) c.set_rates.ensures)) carried;
      restarted = subst (λ (s : ClusterOf). AreRestarted c.args.flat.now c.args.attrs.rows s.runners runners) c.self.view_is c.restart_actors.ensures.restarted;
    }
