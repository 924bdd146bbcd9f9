use Rattle.std.proofs.Common.{◌≡◌, ◌++◌, drop}
use Rattle.std.specs.Prelude.{map, Some}
use Rattle.tdf_expr.proofs.cells.push_starts.Given as goal
use Rattle.tdf_expr.specs.Plans.{start_number}

abbrev pub invariant-loop-value : goal.invariant-loop-value
invariant-loop-value l = l.starts.items ++ map (start_number (Some l.shape)) (drop l.value-index l.values) ≡ l.initial.starts.items ++ map (start_number (Some l.shape)) l.values
