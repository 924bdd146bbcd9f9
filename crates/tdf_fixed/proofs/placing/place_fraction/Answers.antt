-- Each return is one lemma.
use Rattle.std.proofs.Common.{◌<◌, ◌%◌, ◌-◌, ◌∙◌, ap, rules, arith, true, false}
use Rattle.std.proofs.lemmas.Int.{to_z-of_z}
use Rattle.std.specs.Int.{w128}
use Rattle.std.specs.Prelude.{FitsSigned}
use Rattle.tdf_fixed.specs.Quantise.{rounded_whole}
use Rattle.tdf_fixed.proofs.Placed.{placed_positive, placed_exactly, placed_between}
use Rattle.tdf_fixed.proofs.placing.place_fraction.Goals as goal

pub returns-then-not-minus : goal.returns-then-not-minus
returns-then-not-minus c =
    let fits : FitsSigned w128 c.settle.result = search rules in
    let small : FitsSigned w128 c.as_is.result = search rules in
    let some : 0 < c.args.d = omega arith in
    rw (to_z-of_z w128 c.settle.result fits, c.if-not-minus.true)
    (placed_positive c.args.quant c.args.whole c.args.part c.args.d c.args.to c.scaled_up-up.result c.scaled_up.result c.as_is.result c.settle.result
    some c.scaled_up-up.ensures.value c.scaled_up.ensures.value c.as_is.ensures
    (c.settle.ensures ∙ ap (λ z. rounded_whole c.args.quant false z (c.scaled_up-up.result % c.args.d) c.args.d) (to_z-of_z w128 c.as_is.result small)))

pub returns-then-rest-eq0 : goal.returns-then-rest-eq0
returns-then-rest-eq0 c =
    let fits : FitsSigned w128 c.opposite.result = search rules in
    let some : 0 < c.args.d = omega arith in
    rw (to_z-of_z w128 c.opposite.result fits, c.if-not-minus.false)
    (placed_exactly c.args.quant c.args.whole c.args.part c.args.d c.args.to c.scaled_up-up.result c.scaled_up.result c.opposite.result
    some c.scaled_up-up.ensures.value c.scaled_up.ensures.value c.if-rest-eq0.true c.opposite.ensures)

pub returns : goal.returns
returns c =
    let fits : FitsSigned w128 c.settle-2.result = search rules in
    let small : FitsSigned w128 c.below_opposite.result = search rules in
    let some : 0 < c.args.d = omega arith in
    let rest : 0 < c.scaled_up-up.result % c.args.d = omega (arith, c.if-rest-eq0.false) in
    rw (to_z-of_z w128 c.settle-2.result fits, c.if-not-minus.false)
    (placed_between c.args.quant c.args.whole c.args.part c.args.d c.args.to c.scaled_up-up.result c.scaled_up.result c.below_opposite.result c.settle-2.result
    some c.scaled_up-up.ensures.value c.scaled_up.ensures.value rest c.below_opposite.ensures
    (c.settle-2.ensures ∙ ap (λ z. rounded_whole c.args.quant true z (c.args.d - c.scaled_up-up.result % c.args.d) c.args.d) (to_z-of_z w128 c.below_opposite.result small)))
