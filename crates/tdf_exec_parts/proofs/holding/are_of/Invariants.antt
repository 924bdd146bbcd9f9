use Rattle.tdf_exec_parts.proofs.Fits.{PassBelow}
use Rattle.tdf_exec_parts.proofs.holding.are_of.Given as goal
use Rattle.tdf_fixed.specs.Overflow.{IsOfWidth}

abbrev pub invariant-loop-i : goal.invariant-loop-i
invariant-loop-i l = PassBelow (IsOfWidth l.format.signed l.format.wl) l.nums l.i
