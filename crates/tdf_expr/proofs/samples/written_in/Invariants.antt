use Rattle.std.proofs.Common.{◌≡◌, ◌++◌, drop}
use Rattle.tdf_expr.proofs.samples.written_in.Given as goal
use Rattle.tdf_expr.specs.machine.Zeroed.{written_in}

abbrev pub invariant-loop-span : goal.invariant-loop-span
invariant-loop-span l = l.list.items ++ written_in (drop l.span-index l.spans) ≡ written_in l.spans
