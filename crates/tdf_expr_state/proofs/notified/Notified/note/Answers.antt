use Rattle.std.proofs.Common.{rules}
use Rattle.tdf_events_queue.proofs.Api.{flags_with}
use Rattle.tdf_expr_state.proofs.notified.Notified.note.Goals as goal

pub invariant_of-self : goal.invariant_of-self
invariant_of-self c = record {
  flags = flags_with c.self.inside.events.flags c.insert_rising.new.self.flags c.self.inside.times.items c.args.event _ c.self.invariant.flags (search rules);
  rising = c.insert_rising.ensures.rising;
  few = search rules;
}
