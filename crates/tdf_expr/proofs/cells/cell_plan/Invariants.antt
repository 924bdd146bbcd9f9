use Rattle.std.proofs.Common.{◌≡◌, ◌++◌, drop}
use Rattle.std.specs.List.{flat_map}
use Rattle.std.specs.Prelude.{replicate, map}
use Rattle.tdf_expr.proofs.cells.cell_plan.Given as goal
use Rattle.tdf_expr.specs.Plans.{shape_written, starts_of, cell_starts}
use Rattle.tdf_expr_semantics.specs.Places.{cells_of, cell_shapes}
use Rattle.tdf_expr_symbols.specs.Names.{shape_of}

abbrev pub invariant-loop-place : goal.invariant-loop-place
invariant-loop-place l = record {
  shapes : map shape_written l.formats.items ++ flat_map (λ t. replicate (cells_of t) (shape_of t)) (drop l.place l.scope.own.things) ≡ cell_shapes l.scope.own;
  starts : l.starts.items ++ flat_map starts_of (drop l.place l.scope.own.things) ≡ cell_starts l.scope.own;
}
