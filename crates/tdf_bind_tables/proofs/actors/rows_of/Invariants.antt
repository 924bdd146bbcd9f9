use Rattle.tdf_bind_tables.specs.machine.ActorSteps.{RowsUpTo}
use Rattle.tdf_bind_tables.proofs.actors.rows_of.Given as goal

abbrev pub invariant-loop-i : goal.invariant-loop-i
invariant-loop-i l = RowsUpTo l.places l.numbers l.i l.rows.items
