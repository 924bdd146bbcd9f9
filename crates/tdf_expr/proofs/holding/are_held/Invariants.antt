use Rattle.tdf_expr.proofs.Held.{AreHeld}
use Rattle.tdf_expr.proofs.holding.are_held.Given as goal

abbrev pub invariant-loop-i : goal.invariant-loop-i
invariant-loop-i l = AreHeld l.formats l.nums l.i
