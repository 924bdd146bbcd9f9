use Rattle.std.proofs.Common.{arith}
use Rattle.std.specs.Prelude.{replicate, map}
use Rattle.tdf_expr.proofs.Planned.{plan_step}
use Rattle.tdf_expr.proofs.cells.cell_plan.Goals as goal
use Rattle.tdf_expr.specs.Plans.{shape_written, starts_of}
use Rattle.tdf_expr_semantics.specs.Places.{cells_of}
use Rattle.tdf_expr_symbols.specs.Names.{shape_of}

pub loop-place-preserved : goal.loop-place-preserved
loop-place-preserved c = record {
  shapes = plan_step (λ t. replicate (cells_of t) (shape_of t)) c.args.scope.now.own.things (map shape_written c.loop-place.formats.items) (map shape_written c.push_place.new.formats.items) _ c.loop-place.place
      (omega (arith, c.loop-place-test.true, c.own_len-place-end.ensures)) c.in_ok-push_place.ensures.shapes c.loop-place.invariant.shapes;
  starts = plan_step starts_of c.args.scope.now.own.things c.loop-place.starts.items c.push_place.new.starts.items _ c.loop-place.place
      (omega (arith, c.loop-place-test.true, c.own_len-place-end.ensures)) c.in_ok-push_place.ensures.starts c.loop-place.invariant.starts;
}
