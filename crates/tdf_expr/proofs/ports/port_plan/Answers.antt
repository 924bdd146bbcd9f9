use Rattle.std.proofs.Common.{map, arith, ◌<◌, ◌≤◌, ◌∙◌, length}
use Rattle.tdf_expr.proofs.Ported.{spans_step, samples_step, samples_all}
use Rattle.tdf_expr.proofs.ports.port_plan.Goals as goal
use Rattle.tdf_expr.specs.Plans.{place_of_span}
use Rattle.tdf_expr_semantics.specs.Places.{samples_of}

pub loop-place-preserved : goal.loop-place-preserved
loop-place-preserved c =
    let within : c.loop-place.place < length c.args.scope.now.own.things = omega (arith, c.loop-place-test.true, c.own_len-place-end.ensures) in
    record {
      spans = spans_step c.args.scope.now.own c.args.scope.now.own.things (map place_of_span c.loop-place.spans.items) (map place_of_span c.push_place.new.spans.items) _ c.loop-place.place
          c.loop-place.samples c.in_ok-samples.samples within c.in_ok-samples.ensures.spans c.loop-place.invariant.spans;
      samples = samples_step (samples_of c.args.scope.now.own) c.args.scope.now.own.things c.loop-place.place c.loop-place.samples c.in_ok-samples.samples within
          c.in_ok-samples.ensures.next c.loop-place.invariant.samples;
      few = c.in_ok-samples.ensures.few;
    }

pub returns-clause-samples : goal.returns-clause-samples
returns-clause-samples c =
    let past : length c.args.scope.now.own.things ≤ c.loop-place.place = omega (arith, c.loop-place-test.false, c.own_len-place-end.ensures) in
    c.loop-place.invariant.samples ∙ samples_all c.args.scope.now.own c.loop-place.place past
