use Rattle.std.proofs.Common.{◌≡◌, ◌∙◌, ◌<◌, length, refl, sym, arith, subst}
use Rattle.std.proofs.lemmas.List.{length-map}
use Rattle.tdf_exec_parts.proofs.Fits.{AreWithin, within_all, within_more, within_one}
use Rattle.tdf_exec_parts.proofs.fitting.are_rates.Goals as goal
use Rattle.tdf_expr.specs.Frames.{limits_of_rate}
use Rattle.tdf_expr.specs.Made.{rate_spans_of}
use Rattle.tdf_exec_layout.proofs.Api.{get_inside}

pub returns-then-rates-count : goal.returns-then-rates-count
returns-then-rates-count c = (λ e. absurd cc, λ fits. absurd (c.if-rates-count.true (fits.long ∙ length-map (rate_spans_of c.args.checked.now c.args.block) limits_of_rate ∙ sym c.rates-count.ensures)))

pub returns-then-rate-least : goal.returns-then-rate-least
returns-then-rate-least c =
    let spans = rate_spans_of c.args.checked.now c.args.block in
    let below : c.loop-i.i < length spans = omega (arith, c.loop-i-test.true, c.rates-count.ensures) in
    let r = get_inside spans c.loop-i.i below in
    (λ e. absurd cc, λ fits. absurd (let h = within_one spans c.args.rates.now fits c.loop-i.i r.0 r.1 in omega (arith, h.0, c.limits-least.ensures.least r.0 r.1, c.if-rate-least.true)))

pub returns-then-greatest-rate : goal.returns-then-greatest-rate
returns-then-greatest-rate c =
    let spans = rate_spans_of c.args.checked.now c.args.block in
    let below : c.loop-i.i < length spans = omega (arith, c.loop-i-test.true, c.rates-count.ensures) in
    let r = get_inside spans c.loop-i.i below in
    (λ e. absurd cc, λ fits. absurd (let h = within_one spans c.args.rates.now fits c.loop-i.i r.0 r.1 in omega (arith, h.1, c.limits-least.ensures.greatest r.0 r.1, c.if-greatest-rate.true)))

pub loop-i-preserved : goal.loop-i-preserved
loop-i-preserved c =
    let spans = rate_spans_of c.args.checked.now c.args.block in
    let below : c.loop-i.i < length spans = omega (arith, c.loop-i-test.true, c.rates-count.ensures) in
    let r = get_inside spans c.loop-i.i below in
    let least = c.limits-least.ensures.least r.0 r.1 in let greatest = c.limits-least.ensures.greatest r.0 r.1 in
    within_more spans c.args.rates.now c.loop-i.i r.0 r.1 c.loop-i.invariant (omega (arith, least, c.if-rate-least.false), omega (arith, greatest, c.if-greatest-rate.false))

pub returns : goal.returns
returns c =
    let spans = rate_spans_of c.args.checked.now c.args.block in
    let all : c.loop-i.i ≡ length spans = omega (arith, c.loop-i-test.false, c.loop-i.auto.i-end, c.rates-count.ensures) in
    (λ same. within_all spans c.args.rates.now (c.if-rates-count.false ∙ c.rates-count.ensures) (subst (AreWithin spans c.args.rates.now) all c.loop-i.invariant), λ fits. refl)
