use Rattle.std.proofs.Common.{◌≡◌, map, take}
use Rattle.tdf_dynamic_plans.specs.Known.{row_key}
use Rattle.tdf_dynamic_plans.proofs.known.table_key.Given as goal

abbrev pub invariant-loop-i : goal.invariant-loop-i
invariant-loop-i l = l.key.items ≡ map row_key (take l.i l.table)
