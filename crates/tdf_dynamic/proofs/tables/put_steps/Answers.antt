use Rattle.std.proofs.Common.{◌∙◌, ◌++◌, ◌∷◌, [], ap, sym, take}
use Rattle.tdf_dynamic.proofs.Steps.{steps_take}
use Rattle.tdf_dynamic.specs.Asked.{steps_after}
use Rattle.tdf_dynamic.proofs.tables.put_steps.Goals as goal

pub loop-place-preserved : goal.loop-place-preserved
loop-place-preserved c =
    c.in_ok-push.ensures.items ∙ ap (λ l. l ++ c.step_after.result ∷ []) c.loop-place.invariant
    ∙ ap (λ x. steps_after (take c.loop-place.place c.args.before.now) c.args.ports.now.state.steps ++ x ∷ []) c.step_after.ensures
    ∙ sym (steps_take c.args.before.now c.args.ports.now.state.steps c.loop-place.place c.loop-place-test.true)
