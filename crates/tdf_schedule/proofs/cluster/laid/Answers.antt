use Rattle.std.proofs.Common.{ap, refl, subst, sym, arith, length, List}
use Rattle.std.specs.Prelude.{slice_index, All}
use Rattle.tdf_graph.specs.declared.actors.Edge.{Edge}
use Rattle.tdf_schedule.proofs.Linked.{inputs_of_all, outputs_of_all}
use Rattle.tdf_schedule.proofs.Plans.{laid_is, planned_is, full_all}
use Rattle.tdf_schedule.proofs.Works.{total_few}
use Rattle.tdf_schedule.specs.declared.entry.Entry.{Entry}
use Rattle.tdf_schedule.specs.views.Table.{AreInputs, AreOutputs}
use Rattle.tdf_schedule.specs.views.Work.{links_at}
use Rattle.tdf_schedule.proofs.cluster.laid.Goals as goal

pub entries_of-requires-clause-firings : goal.entries_of-requires-clause-firings
entries_of-requires-clause-firings c = let t = total_few c.args.table.now.items c.args.counts.now c.requires.rows.same c.requires.rows.within in omega (arith, t, c.requires.few)

pub most_held-requires-clause-few : goal.most_held-requires-clause-few
most_held-requires-clause-few c = let l = c.in_ok-entries.ensures.long in let d = ap (λ (x : List Entry). length x) c.deref.ensures.value in
    let t = total_few c.args.table.now.items c.args.counts.now c.requires.rows.same c.requires.rows.within in omega (arith, l, d, t, c.requires.few)

pub most_held-requires-clause-into : goal.most_held-requires-clause-into
most_held-requires-clause-into c =
    subst (All (λ (x : Entry). AreInputs c.edges.result.now x.actor (links_at c.args.ends.now.inputs x.actor))) (sym c.deref.ensures.value)
    (subst (λ (es : List Edge). All (λ (x : Entry). AreInputs es x.actor (links_at c.args.ends.now.inputs x.actor)) c.in_ok-entries.entries.items) (sym c.edges.ensures)
    (inputs_of_all c.args.counts.now c.args.net.now.edges.items c.args.ends.now.inputs c.args.table.now.items c.in_ok-entries.entries.items c.requires.rows.within c.in_ok-entries.ensures.keys c.requires.into))

pub most_held-requires-clause-out : goal.most_held-requires-clause-out
most_held-requires-clause-out c =
    subst (All (λ (x : Entry). AreOutputs c.edges.result.now x.actor (links_at c.args.ends.now.outputs x.actor))) (sym c.deref.ensures.value)
    (subst (λ (es : List Edge). All (λ (x : Entry). AreOutputs es x.actor (links_at c.args.ends.now.outputs x.actor)) c.in_ok-entries.entries.items) (sym c.edges.ensures)
    (outputs_of_all c.args.counts.now c.args.net.now.edges.items c.args.ends.now.outputs c.args.table.now.items c.in_ok-entries.entries.items c.requires.rows.within c.in_ok-entries.ensures.keys c.requires.out))

pub returns : goal.returns
returns c = laid_is c.args.net.now.edges.items (slice_index c.args.paces.now) c.args.counts.now c.args.period _ c.in_ok-most.most.items _ _ _ _
    (planned_is c.args.net.now.edges.items (slice_index c.args.paces.now) c.args.counts.now c.args.table.now.items c.requires.rows c.in_ok-entries.entries.items
    c.in_ok-entries.ensures.complete c.in_ok-entries.ensures.keys c.in_ok-entries.ensures.sorted (full_all c.args.net.now.edges.items (slice_index c.args.paces.now) c.args.counts.now c.args.table.now.items c.requires.rows c.requires.full))
    c.edges.ensures c.deref.ensures.value c.edges-2.ensures c.deref-2.ensures.value c.in_ok-most.ensures c.in_ok-bounds.ensures refl
