use Rattle.tdf_dynamic.specs.Asked.{IsQuiet}
use Rattle.tdf_dynamic.specs.machine.Asking.{told}
use Rattle.tdf_dynamic.specs.machine.Rows.{HoldsBelow}
use Rattle.tdf_dynamic.proofs.tables.is_same.Given as goal

abbrev pub invariant-loop-i : goal.invariant-loop-i
invariant-loop-i l = HoldsBelow (λ attrs f. IsQuiet attrs (told f)) l.table l.frames l.i
