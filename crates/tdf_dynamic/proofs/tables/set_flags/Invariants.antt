use Rattle.tdf_dynamic.specs.machine.Rows.{AreFlagged}
use Rattle.tdf_dynamic.proofs.tables.set_flags.Given as goal

abbrev pub invariant-loop-i : goal.invariant-loop-i
invariant-loop-i l = AreFlagged l.initial.table.items l.frames l.i l.table.items
