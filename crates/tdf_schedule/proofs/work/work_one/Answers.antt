use Rattle.std.proofs.Common.{◌∙◌, ℕ, List, length, slice_set, subst, sym, false}
use Rattle.std.proofs.lemmas.List.{length-set}
use Rattle.std.specs.Prelude.{All}
use Rattle.tdf_graph.specs.Ranges.{IsEdge}
use Rattle.tdf_schedule.proofs.Linked.{last_of, out_inside}
use Rattle.tdf_schedule.proofs.Works.{worked_still, worked_on, less_on}
use Rattle.tdf_schedule.specs.views.Work.{ArePushed, readers_in}
use Rattle.tdf_schedule.proofs.work.work_one.Goals as goal

pub fire-requires-clause-actor : goal.fire-requires-clause-actor
fire-requires-clause-actor c = c.requires.worked.inside (length c.args.work.now.stack.items) c.args.actor (last_of c.args.work.now.stack.items c.args.actor)

pub returns-then-row_len-before-clause-worked : goal.returns-then-row_len-before-clause-worked
returns-then-row_len-before-clause-worked c = worked_still c.args.given.now.edges.now c.args.given.now.counts.now c.args.given.now.outputs.now c.requires.given.out c.args.table.now.items c.fire.new.table.items c.args.actor
    c.args.work.now.stack.items c.args.work.now.on.items c.requires.worked c.in_ok-fire.ensures.grown c.in_ok-fire.ensures.settled (sym c.row_len.ensures ∙ c.if-row_len-before.true ∙ c.row_len-before.ensures)

pub returns-clause-worked : goal.returns-clause-worked
returns-clause-worked c = worked_on c.args.given.now.edges.now c.args.given.now.counts.now c.args.given.now.outputs.now c.requires.given.out c.args.table.now.items c.fire.new.table.items c.args.actor
    c.args.work.now.stack.items c.args.work.now.on.items c.requires.worked c.in_ok-fire.ensures.grown c.in_ok-fire.ensures.settled c.push_readers.new.work.stack.items c.push_readers.new.work.on.items (c.in_ok-fire.ensures.rows.within c.args.actor)
    (subst (λ (l : List ℕ). ArePushed (readers_in c.args.given.now.edges.now l) (length l) c.args.work.now.stack.items c.push_readers.new.work.stack.items (slice_set c.args.work.now.on.items c.args.actor false) c.push_readers.new.work.on.items) c.list.ensures c.in_ok-push_readers.ensures)

pub returns-clause-less : goal.returns-clause-less
returns-clause-less c = less_on c.args.given.now.edges.now c.args.given.now.counts.now c.args.given.now.outputs.now c.requires.given.out c.args.table.now.items c.fire.new.table.items c.args.actor
    c.args.work.now.stack.items c.args.work.now.on.items c.requires.worked c.in_ok-fire.ensures.grown c.in_ok-fire.ensures.settled c.push_readers.new.work.stack.items c.push_readers.new.work.on.items
    c.in_ok-fire.ensures.rows.same c.in_ok-fire.ensures.rows.within (λ same. c.if-row_len-before.false (c.row_len.ensures ∙ same ∙ sym c.row_len-before.ensures))
    (subst (λ (l : List ℕ). ArePushed (readers_in c.args.given.now.edges.now l) (length l) c.args.work.now.stack.items c.push_readers.new.work.stack.items (slice_set c.args.work.now.on.items c.args.actor false) c.push_readers.new.work.on.items) c.list.ensures c.in_ok-push_readers.ensures)

pub push_readers-requires-clause-fit : goal.push_readers-requires-clause-fit
push_readers-requires-clause-fit c = subst (λ n. All (IsEdge n) c.args.given.now.edges.now) (sym (length-set c.args.work.now.on.items c.args.actor false ∙ c.requires.worked.flags)) c.requires.given.fit

pub push_readers-requires-clause-inside : goal.push_readers-requires-clause-inside
push_readers-requires-clause-inside c = out_inside c.args.given.now.edges.now c.args.given.now.counts.now c.args.given.now.outputs.now c.args.actor c.list.result.now c.requires.given.out c.list.ensures
