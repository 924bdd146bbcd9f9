use Rattle.std.proofs.Common.{◌≡◌}
use Rattle.tdf_expr.proofs.events.event_count.Given as goal
use Rattle.tdf_expr_semantics.specs.Places.{before, events_of}

abbrev pub invariant-loop-place : goal.invariant-loop-place
invariant-loop-place l = l.count ≡ before events_of l.scope.own.things l.place
