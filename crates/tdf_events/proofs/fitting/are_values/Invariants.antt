use Rattle.std.proofs.Common.{map}
use Rattle.tdf_events.proofs.fitting.are_values.Given as goal
use Rattle.tdf_expr.proofs.Api.{AreHeld}

abbrev pub invariant-loop-i : goal.invariant-loop-i
invariant-loop-i l = AreHeld (map (λ row. row.format) l.signals) l.nums l.i
