use Rattle.std.proofs.Common.{◌≡◌, take}
use Rattle.tdf_dynamic_first.specs.machine.Placed.{own_rows}
use Rattle.tdf_dynamic_first.proofs.table.table_rows.Given as goal

abbrev pub invariant-loop-i : goal.invariant-loop-i
invariant-loop-i l = l.rows.items ≡ own_rows l.flat (take l.i l.actors)
