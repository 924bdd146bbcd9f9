use Rattle.tdf_dynamic_values.specs.machine.Rows.{AreRowsSoFar}
use Rattle.tdf_dynamic_values.proofs.values.rows_by.Given as goal

abbrev pub invariant-loop-i : goal.invariant-loop-i
invariant-loop-i l = AreRowsSoFar l.rows l.accepts l.rates l.steps l.i l.new.items l.rate l.step
