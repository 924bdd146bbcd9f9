use Rattle.tdf_events_queue.specs.Sets.{AreForgotten}
use Rattle.tdf_expr_state.proofs.notified.forget.Given as goal

abbrev pub invariant-loop-i : goal.invariant-loop-i
invariant-loop-i l = AreForgotten l.events l.i l.initial.times.items l.times.items
