use Rattle.std.proofs.Common.{rules, SFits, to_z, of_z, ◌≡◌, ◌∙◌, ◌+◌, ap, sym, subst, drop, get_or}
use Rattle.std.proofs.lemmas.Int.{to_z-of_z}
use Rattle.std.specs.Int.{w64}
use Rattle.tdf_expr_flat.specs.Flat.{AreSafeSteps, Hand, hand_of, after_steps, after_step}
use Rattle.tdf_expr_flat.specs.declared.steps.Operation.{Operation}
use Rattle.tdf_expr_flat.proofs.InOrder.{hand_from, steps_next, safe_next}
use Rattle.tdf_expr_state.specs.State.{state_of}
use Rattle.tdf_expr_flat.proofs.steps.run_steps.Goals as goal

pub loop-operation-preserved : goal.loop-operation-preserved
loop-operation-preserved c =
    let code = c.args.code.now in
    let i = c.loop-operation.operation-index in
    let within = c.loop-operation-test.true in
    let h = hand_of (to_z w64 c.loop-operation.number-bits) (state_of c.loop-operation.cells c.loop-operation.signals) in
    let o = c.operation-item.result in
    let fits : SFits w64 c.step-number.result = search rules in
    let next : hand_of (to_z w64 (of_z w64 c.step-number.result)) (state_of c.step-number.new.cells c.step-number.new.signals) ≡ after_step o h =
    hand_from (after_step o h) _ _ _ (to_z-of_z w64 c.step-number.result fits ∙ c.step-number.ensures.number) c.step-number.ensures.frame c.step-number.ensures.ports in
    let here : hand_of (to_z w64 (of_z w64 c.step-number.result)) (state_of c.step-number.new.cells c.step-number.new.signals) ≡ after_step (get_or code i o) h =
    next ∙ ap (λ (x : Operation). after_step x h) c.operation-item.is in
    record {
      same = ap (after_steps (drop (i + 1) code)) here ∙ steps_next code i o h within ∙ c.loop-operation.invariant.same;
      safe = subst (λ (x : Hand). AreSafeSteps (drop (i + 1) code) x) (sym here) (safe_next code i o h within c.loop-operation.invariant.safe).1;
    }
