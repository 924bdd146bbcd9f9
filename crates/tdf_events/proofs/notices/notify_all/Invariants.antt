use Rattle.std.proofs.Common.{◌≡◌}
use Rattle.tdf_events.proofs.Noticing.{notice}
use Rattle.tdf_events_queue.specs.Evaluation.{ran_first}
use Rattle.tdf_events.proofs.notices.notify_all.Given as goal

abbrev pub invariant-loop-i : goal.invariant-loop-i
invariant-loop-i l = l.notices ≡ ran_first (notice l.time l.events l.ports.state.notified) l.asked l.i l.initial.notices
