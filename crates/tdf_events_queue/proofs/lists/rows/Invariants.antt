use Rattle.std.proofs.Common.{◌≡◌, [], replicate}
use Rattle.tdf_events_queue.proofs.lists.rows.Given as goal

abbrev pub invariant-loop : goal.invariant-loop
invariant-loop l = l.rows.items ≡ replicate l.counter []
