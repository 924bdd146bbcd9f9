use Rattle.std.proofs.Common.{subst, length, ℕ, List}
use Rattle.tdf_schedule.proofs.Flows.{fired, into_within, out_within}
use Rattle.tdf_schedule.specs.views.Bounds.{AreRaisedUpTo}
use Rattle.tdf_schedule.specs.views.Work.{links_at}
use Rattle.tdf_schedule.proofs.bounds.fire.Goals as goal

pub returns-clause-raised : goal.returns-clause-raised
returns-clause-raised c = fired c.args.actor c.args.edges.now (links_at c.args.inputs.now c.args.actor) (links_at c.args.outputs.now c.args.actor) c.list.result.now c.list-2.result.now _
    c.args.bounds.now.items c.raise.new.bounds.items c.raise-2.new.bounds.items c.requires.into c.requires.out c.list.ensures c.list-2.ensures
    (subst (λ (l : List ℕ). AreRaisedUpTo (length c.list.result.now) c.list.result.now c.args.edges.now l c.args.bounds.now.items c.raise.new.bounds.items) c.deref.ensures.value c.raise.ensures)
    (subst (λ (l : List ℕ). AreRaisedUpTo (length c.list-2.result.now) c.list-2.result.now c.args.edges.now l c.raise.new.bounds.items c.raise-2.new.bounds.items) c.deref-2.ensures.value c.raise-2.ensures)

pub raise-requires-clause-inside : goal.raise-requires-clause-inside
raise-requires-clause-inside c = into_within c.args.edges.now c.args.actor (links_at c.args.inputs.now c.args.actor) c.list.result.now c.requires.into c.list.ensures

pub raise-requires-2-clause-inside : goal.raise-requires-2-clause-inside
raise-requires-2-clause-inside c = out_within c.args.edges.now c.args.actor (links_at c.args.outputs.now c.args.actor) c.list-2.result.now c.requires.out c.list-2.ensures
