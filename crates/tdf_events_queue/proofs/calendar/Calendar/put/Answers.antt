use Rattle.std.proofs.Common.{rules, ◌≡◌, ◌<◌, ℕ, List, Option, Some, subst, sym}
use Rattle.tdf_events_queue.proofs.Nodes.{put_noticed}
use Rattle.tdf_events_queue.specs.Times.{pending_time}
use Rattle.tdf_events_queue.proofs.calendar.Calendar.put.Goals as goal

pub hurry-requires-clause-changed : goal.hurry-requires-clause-changed
hurry-requires-clause-changed c = put_noticed c.self.inside.times.items c.self.inside.nodes.items c.args.event c.args.time _ (search rules) (search rules) c.self.invariant.many c.self.invariant.leaves c.self.invariant.earlier
    (subst (λ (xs : List (Option ℕ)). (t : ℕ) → pending_time xs c.args.event ≡ Some t → c.args.time < t) (sym c.self.view_is) c.requires.earlier)
