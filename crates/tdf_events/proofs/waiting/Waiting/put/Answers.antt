use Rattle.tdf_events_queue.proofs.Api.{flags_with}
use Rattle.tdf_events.proofs.waiting.Waiting.put.Goals as goal

pub invariant_of-self : goal.invariant_of-self
invariant_of-self c = flags_with c.self.inside.signals.flags c.insert.new.self.flags c.self.inside.values.items c.args.signal c.args.value c.self.invariant c.insert.ensures
