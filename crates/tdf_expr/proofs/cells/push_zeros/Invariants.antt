use Rattle.std.proofs.Common.{◌≡◌, ◌++◌, pos}
use Rattle.std.specs.Prelude.{replicate}
use Rattle.tdf_expr.proofs.cells.push_zeros.Given as goal

abbrev pub invariant-loop-done : goal.invariant-loop-done
invariant-loop-done l = l.starts.items ≡ l.initial.starts.items ++ replicate l.done (pos 0)
