use Rattle.std.proofs.Common.{rules, SFits, to_z, of_z, ◌≡◌, ◌∙◌, ◌+◌, ap, sym, subst, drop, get_or, refl}
use Rattle.std.proofs.lemmas.Int.{to_z-of_z}
use Rattle.std.specs.Int.{w64}
use Rattle.tdf_expr_flat.specs.Flat.{AreSafeSteps, Hand, hand_of, after_steps, after_step}
use Rattle.tdf_expr_flat.specs.declared.steps.Operation.{Operation}
use Rattle.tdf_expr_flat.proofs.InOrder.{hand_from, steps_next, safe_next}
use Rattle.tdf_expr_state.specs.State.{state_of}
use Rattle.tdf_expr_flat.proofs.steps.run_flat.Goals as goal

pub loop-at-preserved : goal.loop-at-preserved
loop-at-preserved c =
    let code = c.args.code.now in
    let i = c.loop-at.at in
    let within = c.loop-at-test.true in
    let h = hand_of (to_z w64 c.loop-at.number-bits) (state_of c.loop-at.cells c.loop-at.signals) in
    let o = c.index-code-at.result in
    let new = c.quick_step.new in
    let fits : SFits w64 c.in-Some.next = search rules in
    let next : hand_of (to_z w64 (of_z w64 c.in-Some.next)) (state_of new.cells new.signals) ≡ after_step o h =
    hand_from (after_step o h) _ _ _ (to_z-of_z w64 c.in-Some.next fits ∙ c.in-Some.ensures.number) (c.in-Some.ensures.frame refl) (c.in-Some.ensures.ports refl) in
    let here : hand_of (to_z w64 (of_z w64 c.in-Some.next)) (state_of new.cells new.signals) ≡ after_step (get_or code i o) h =
    next ∙ ap (λ (x : Operation). after_step x h) c.index-code-at.is in
    record {
      same = ap (after_steps (drop (i + 1) code)) here ∙ steps_next code i o h within ∙ c.loop-at.invariant.same;
      safe = subst (λ (x : Hand). AreSafeSteps (drop (i + 1) code) x) (sym here) (safe_next code i o h within c.loop-at.invariant.safe).1;
    }
