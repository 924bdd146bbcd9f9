use Rattle.std.proofs.Common.{ℕ, Option, None, List, if◌then◌else◌, length, ap, sym, ◌∙◌, subst}
use Rattle.std.proofs.lemmas.List.{length-map}
use Rattle.tdf_events.specs.Delta.{IsNoneBefore, is_due}
use Rattle.tdf_events.specs.Notices.{NoticesOf}
use Rattle.tdf_events.specs.machine.Due.{comes}
use Rattle.tdf_events.specs.machine.Updating.{AreAllReached}
use Rattle.tdf_events.proofs.Begun.{gone_at}
use Rattle.tdf_events.proofs.notices.Notices.come.Goals as goal

pub take_due-requires-clause-early : goal.take_due-requires-clause-early
take_due-requires-clause-early c = (subst (λ (n : NoticesOf). IsNoneBefore c.args.time n.times) (sym c.self.view_is) c.requires.early).none

pub take_due-requires-clause-lists : goal.take_due-requires-clause-lists
take_due-requires-clause-lists c = c.requires.lists ∙ sym (ap (λ (n : NoticesOf). length n.times) c.self.view_is)

pub invariant_of-self : goal.invariant_of-self
invariant_of-self c = ap length c.take_due.ensures.times ∙ length-map c.self.inside.calendar (λ pending. if is_due c.args.time pending then None else pending) ∙ c.self.invariant

pub returns-clause-reached : goal.returns-clause-reached
returns-clause-reached c = subst (λ (n : NoticesOf). AreAllReached c.args.lists.now (comes c.args.time n.times) c.args.set.now.flags c.take_due.new.set.flags) c.self.view_is c.take_due.ensures.reached

pub returns-clause-gone : goal.returns-clause-gone
returns-clause-gone c = ap (λ (xs : List (Option ℕ)). record { times = xs; delta = c.self.inside.delta.flags }) c.take_due.ensures.times ∙ ap (gone_at c.args.time) c.self.view_is
