use Rattle.std.proofs.Common.{◌≡◌, map, take}
use Rattle.tdf_trace.proofs.trace.columns_of.Given as goal
use Rattle.tdf_trace.specs.views.Seen.{fresh}

abbrev pub invariant-loop-i : goal.invariant-loop-i
invariant-loop-i l = l.columns.items ≡ map fresh (take l.i l.variables.items)
