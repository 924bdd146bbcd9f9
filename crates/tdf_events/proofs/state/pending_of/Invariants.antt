use Rattle.std.proofs.Common.{◌≡◌}
use Rattle.std.specs.List.{flat_map, range_with_len}
use Rattle.tdf_events_queue.specs.Times.{pending_time}
use Rattle.tdf_events.proofs.state.pending_of.Given as goal
use Rattle.tdf_events.specs.State.{notification_of}

abbrev pub invariant-loop-place : goal.invariant-loop-place
invariant-loop-place l = l.list.items ≡ flat_map (λ event. notification_of event (pending_time l.notices.times event)) (range_with_len 0 l.place)
