use Rattle.tdf_dynamic.specs.machine.Rows.{HoldsBelow, TakesAll}
use Rattle.tdf_dynamic.proofs.rejecting.take_all.Given as goal

abbrev pub invariant-loop-i : goal.invariant-loop-i
invariant-loop-i l = HoldsBelow TakesAll l.table l.frames l.i
