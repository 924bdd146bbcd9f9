use Rattle.std.proofs.Common.{List, Option, ℕ, map, is_some, subst}
use Rattle.tdf_events_queue.specs.Sets.{AreRisingFlags}
use Rattle.tdf_expr_state.proofs.Standing.{listed_of}
use Rattle.tdf_expr_state.proofs.notified.Notified.events.Goals as goal

pub returns : goal.returns
returns c = subst (λ (times : List (Option ℕ)). AreRisingFlags (map is_some times) c.members.result.now) c.self.view_is
    (listed_of c.self.inside.events.flags c.self.inside.events.members c.self.inside.times.items c.self.invariant.flags c.self.invariant.rising c.members.result.now c.members.ensures.value)
