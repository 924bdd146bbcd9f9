use Rattle.std.proofs.Common.{arith, ◌<◌, ◌≤◌, ◌∙◌, length}
use Rattle.tdf_expr.proofs.Ported.{samples_step, before_total}
use Rattle.tdf_expr.proofs.events.event_count.Goals as goal
use Rattle.tdf_expr_semantics.specs.Places.{events_of}

pub loop-place-preserved : goal.loop-place-preserved
loop-place-preserved c =
    let within : c.loop-place.place < length c.args.scope.now.own.things = omega (arith, c.loop-place-test.true, c.own_len-place-end.ensures) in
    samples_step events_of c.args.scope.now.own.things c.loop-place.place c.loop-place.count c.in_ok-count.count within c.in_ok-count.ensures c.loop-place.invariant

pub returns : goal.returns
returns c =
    let past : length c.args.scope.now.own.things ≤ c.loop-place.place = omega (arith, c.loop-place-test.false, c.own_len-place-end.ensures) in
    c.loop-place.invariant ∙ before_total events_of c.args.scope.now.own.things c.loop-place.place past
