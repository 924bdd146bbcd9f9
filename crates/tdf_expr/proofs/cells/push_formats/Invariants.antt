use Rattle.std.proofs.Common.{◌≡◌, ◌++◌}
use Rattle.std.specs.Prelude.{replicate}
use Rattle.tdf_expr.proofs.cells.push_formats.Given as goal

abbrev pub invariant-loop-done : goal.invariant-loop-done
invariant-loop-done l = l.formats.items ≡ l.initial.formats.items ++ replicate l.done l.format
