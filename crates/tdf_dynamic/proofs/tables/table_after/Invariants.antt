use Rattle.tdf_dynamic.specs.machine.Rows.{AreWritten}
use Rattle.tdf_dynamic.proofs.tables.table_after.Given as goal

abbrev pub invariant-loop-i : goal.invariant-loop-i
invariant-loop-i l = AreWritten l.table l.frames l.i l.after.items
