use Rattle.std.proofs.Common.{◌≡◌, ◌+◌, ap, arith, length, subst, sym}
use Rattle.tdf_bind_tables.specs.FlatTables.{FlatTablesOf}
use Rattle.tdf_sim_refinement.proofs.Gathered.{all_linked_are, none_linked_yet}
use Rattle.tdf_sim_refinement.specs.machine.Linking.{AreAllLinkedUpTo}
use Rattle.tdf_sim_refinement.proofs.linking.all_sampler_links.Goals as goal

pub loop-m-init : goal.loop-m-init
loop-m-init c = none_linked_yet c.args.tables.now c.args.count c.in_ok-links.links.items c.in_ok-links.ensures

pub put_sampler-requires-clause-linked : goal.put_sampler-requires-clause-linked
put_sampler-requires-clause-linked c = subst (λ k. AreAllLinkedUpTo c.args.tables.now k c.loop-m.m c.loop-m.links.items) (sym c.loop-m.invariant.long) c.loop-m.invariant

pub loop-m-preserved : goal.loop-m-preserved
loop-m-preserved c = subst (λ k. AreAllLinkedUpTo c.args.tables.now k (c.loop-m.m + 1) c.put_sampler.new.links.items) c.loop-m.invariant.long c.in_ok-put_sampler.ensures

pub returns-clause-links : goal.returns-clause-links
returns-clause-links c =
    let v = ap (λ (x : FlatTablesOf). length x.actors) c.tables.view_is in
    let all : c.loop-m.m ≡ length c.args.tables.now.actors = omega (arith, v) in
    all_linked_are c.args.tables.now c.args.count c.loop-m.links.items (subst (λ k. AreAllLinkedUpTo c.args.tables.now c.args.count k c.loop-m.links.items) all c.loop-m.invariant)
