use Rattle.std.proofs.Common.{◌≤◌, ◌∙◌, arith, length, refl}
use Rattle.tdf_dynamic.proofs.Steps.{steps_differ, steps_same}
use Rattle.tdf_dynamic.proofs.tables.are_same_steps.Goals as goal

pub returns-then-step_after-before : goal.returns-then-step_after-before
returns-then-step_after-before c = (
  (λ is. absurd cc),
  (λ same. absurd (steps_differ c.args.before.now c.args.ports.now.state.steps c.loop-place.place c.loop-place-test.true
      (λ here. c.if-step_after-before.true (c.step_after.ensures ∙ here)) same)),
)

pub returns : goal.returns
returns c =
    let past : length c.args.before.now ≤ c.loop-place.place = omega (arith, c.loop-place-test.false) in
    ((λ is. steps_same c.args.before.now c.args.ports.now.state.steps (λ j below. c.loop-place.invariant j (omega (arith, past, below)))), (λ same. refl))
