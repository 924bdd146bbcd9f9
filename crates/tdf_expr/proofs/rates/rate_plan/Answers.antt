use Rattle.std.proofs.Common.{arith}
use Rattle.tdf_expr.proofs.Planned.{plan_step}
use Rattle.tdf_expr.proofs.rates.rate_plan.Goals as goal
use Rattle.tdf_expr.specs.Plans.{rate_span}

pub loop-place-preserved : goal.loop-place-preserved
loop-place-preserved c =
    plan_step rate_span c.args.scope.now.own.things c.loop-place.spans.items c.push_place.new.spans.items _ c.loop-place.place
    (omega (arith, c.loop-place-test.true, c.own_len-place-end.ensures)) c.in_ok-push_place.ensures c.loop-place.invariant
