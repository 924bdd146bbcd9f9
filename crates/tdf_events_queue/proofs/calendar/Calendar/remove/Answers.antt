use Rattle.std.proofs.Common.{rules, ◌≡◌, ℕ, List, Option, is_some, true, subst, sym}
use Rattle.tdf_events_queue.proofs.Nodes.{removed_cancelled}
use Rattle.tdf_events_queue.specs.Times.{pending_time}
use Rattle.tdf_events_queue.proofs.calendar.Calendar.remove.Goals as goal

pub retire-requires-clause-changed : goal.retire-requires-clause-changed
retire-requires-clause-changed c = removed_cancelled c.self.inside.times.items c.self.inside.nodes.items c.args.event _ (search rules) (search rules) c.self.invariant.many c.self.invariant.leaves c.self.invariant.earlier
    (subst (λ (xs : List (Option ℕ)). is_some (pending_time xs c.args.event) ≡ true) (sym c.self.view_is) c.requires.some)
