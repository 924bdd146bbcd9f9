use Rattle.std.proofs.Common.{◌≡◌, ◌<◌, ◌≤◌, ◌*◌, ◌+◌, ◌/◌, ℕ, length}
use Rattle.tdf_events_queue.proofs.calendar.retire.Given as goal
use Rattle.tdf_events_queue.specs.machine.Calendar.{IsCancelled, node_at}

abbrev pub invariant-loop-at : goal.invariant-loop-at
invariant-loop-at l = record {
  many : length l.nodes.items ≡ length l.initial.nodes.items;
  within : 2 * (l.at / 2) + 1 < length l.initial.nodes.items;
  leaves : (place : ℕ) → length l.initial.nodes.items ≤ 2 * place → node_at l.nodes.items place ≡ node_at l.initial.nodes.items place;
  cancelled : IsCancelled l.event l.at l.nodes.items;
}

abbrev pub decreases-loop-at : goal.decreases-loop-at
decreases-loop-at l = l.at
