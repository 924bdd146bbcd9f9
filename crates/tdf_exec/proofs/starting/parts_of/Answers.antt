use Rattle.std.proofs.Common.{rules, ◌≡◌, ◌∙◌, List, ap, subst, sym}
use Rattle.tdf_cluster_net.specs.Numbers.{Rise}
use Rattle.tdf_cluster_plans.specs.Groups.{AreTableGroups}
use Rattle.tdf_dynamic_plans.specs.Attributes.{AttrsOf}
use Rattle.tdf_dynamic_plans.specs.Rates.{AreRates, net_of}
use Rattle.tdf_exec.proofs.Elsewhere.{ones_read, ones_written}
use Rattle.tdf_exec.proofs.Kept.{first_rates}
use Rattle.tdf_exec.proofs.Numbered.{actors_here, in_actors, is_there}
use Rattle.tdf_exec.specs.Layout.{LayoutOf}
use Rattle.tdf_exec_firing.specs.Edges.{EdgesOf}
use Rattle.tdf_streams.specs.Periods.{read_rates, write_rates}
use Rattle.tdf_exec.proofs.starting.parts_of.Goals as goal

pub own_edges-requires-clause-has : goal.own_edges-requires-clause-has
own_edges-requires-clause-has c = is_there c.args.flat.now c.args.cluster c.args.first.now (c.law_laid.ensures.laid c.args.flat.now c.requires.sound) c.requires.plan

pub own_edges-requires-clause-rates : goal.own_edges-requires-clause-rates
own_edges-requires-clause-rates c =
    let rows : c.deref.result.now ≡ c.args.first.now.attrs.rows = search rules in
    subst (AreRates c.args.flat.now.tables) (sym rows) (first_rates c.args.flat.now c.args.cluster c.args.first.now (c.law_laid.ensures.laid c.args.flat.now c.requires.sound) c.requires.plan)

pub own_edges-requires-clause-reads : goal.own_edges-requires-clause-reads
own_edges-requires-clause-reads c =
    let rows : c.deref.result.now ≡ c.args.first.now.attrs.rows = search rules in
    ones_read c.args.flat.now c.args.cluster c.args.first.now (c.law_laid.ensures.laid c.args.flat.now c.requires.sound) c.requires.plan c.deref.result.now rows

pub own_edges-requires-clause-writes : goal.own_edges-requires-clause-writes
own_edges-requires-clause-writes c =
    let rows : c.deref.result.now ≡ c.args.first.now.attrs.rows = search rules in
    ones_written c.args.flat.now c.args.cluster c.args.first.now (c.law_laid.ensures.laid c.args.flat.now c.requires.sound) c.requires.plan c.deref.result.now rows

pub actors-numbers-requires : goal.actors-numbers-requires
actors-numbers-requires c =
    let flat = c.args.flat.now in
    let given : AreTableGroups flat.tables c.layout.inside.groups = subst (λ (l : LayoutOf). AreTableGroups flat.tables l.groups) (sym c.layout.view_is) c.requires.groups in
    in_actors flat.tables c.layout.inside.groups c.args.cluster (is_there flat c.args.cluster c.args.first.now (c.law_laid.ensures.laid flat c.requires.sound) c.requires.plan) given

pub counted_actors-requires : goal.counted_actors-requires
counted_actors-requires c =
    let flat = c.args.flat.now in
    let given : AreTableGroups flat.tables c.layout.inside.groups = subst (λ (l : LayoutOf). AreTableGroups flat.tables l.groups) (sym c.layout.view_is) c.requires.groups in
    (actors_here flat.tables c.layout.inside.groups c.args.cluster (is_there flat c.args.cluster c.args.first.now (c.law_laid.ensures.laid flat c.requires.sound) c.requires.plan) given
    c.actors-numbers.result.now c.actors-numbers.ensures).rising

pub firings-requires : goal.firings-requires
firings-requires c = subst Rise (sym c.deref-3.ensures.value) c.in_ok-counted.ensures

pub own_actors-requires-clause-has : goal.own_actors-requires-clause-has
own_actors-requires-clause-has c = is_there c.args.flat.now c.args.cluster c.args.first.now (c.law_laid.ensures.laid c.args.flat.now c.requires.sound) c.requires.plan

pub returns-clause-parts : goal.returns-clause-parts
returns-clause-parts c =
    let tables = c.args.flat.now.tables in
    let rows : c.deref.result.now ≡ c.args.first.now.attrs.rows = search rules in
    record {
      reads_are = ap (λ (e : EdgesOf). e.reads) c.in_ok-edges.ensures ∙ ap (λ (t : List AttrsOf). read_rates (net_of tables t)) rows;
      writes_are = ap (λ (e : EdgesOf). e.writes) c.in_ok-edges.ensures ∙ ap (λ (t : List AttrsOf). write_rates (net_of tables t)) rows;
      rings_are = ap (λ (e : EdgesOf). e.rings) c.in_ok-edges.ensures;
      runners_are = c.in_ok-actors.ensures.runners;
      none_done = c.in_ok-actors.ensures.none_done;
    }
