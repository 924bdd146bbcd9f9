use Rattle.std.proofs.Common.{◌≡◌, ◌<◌, Some, length, refl, arith, slice_get}
use Rattle.std.proofs.lemmas.Option.{slice_get-get_or}
use Rattle.std.specs.Prelude.{slice_index}
use Rattle.tdf_base.specs.Limits.{time_end}
use Rattle.tdf_exec_parts.proofs.Fits.{pass_all, pass_more, pass_one}
use Rattle.tdf_exec_parts.proofs.fitting.are_steps.Goals as goal

pub returns-then-steps-count : goal.returns-then-steps-count
returns-then-steps-count c = (λ e. absurd cc, λ fits. absurd (c.if-steps-count.true fits.0))

pub returns-then-step-ge-TIME_END : goal.returns-then-step-ge-TIME_END
returns-then-step-ge-TIME_END c =
    let at : slice_get c.args.steps.now c.loop-i.i ≡ Some (slice_index c.args.steps.now c.loop-i.i) = slice_get-get_or c.args.steps.now c.loop-i.i 0 c.loop-i-test.true in
    (λ e. absurd cc, λ fits. absurd (let h = pass_one (λ step. step < time_end) c.args.steps.now c.loop-i.i _ at fits.1 in omega (arith, h, c.if-step-ge-TIME_END.true)))

pub loop-i-preserved : goal.loop-i-preserved
loop-i-preserved c =
    let at : slice_get c.args.steps.now c.loop-i.i ≡ Some (slice_index c.args.steps.now c.loop-i.i) = slice_get-get_or c.args.steps.now c.loop-i.i 0 c.loop-i-test.true in
    pass_more (λ step. step < time_end) c.args.steps.now c.loop-i.i _ at c.loop-i.invariant (omega (arith, c.if-step-ge-TIME_END.false))

pub returns : goal.returns
returns c =
    let all : length c.args.steps.now ≡ c.loop-i.i = omega (arith, c.loop-i-test.false, c.loop-i.auto.i-end) in
    (λ same. (c.if-steps-count.false, pass_all (λ step. step < time_end) c.args.steps.now c.loop-i.i all c.loop-i.invariant), λ fits. refl)
