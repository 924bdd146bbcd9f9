-- A digit more keeps the number and its bound.
use Rattle.std.proofs.Common.{◌-◌, ◌≤◌, ◌<◌, ◌^◌, ◌∙◌, get_or, arith}
use Rattle.tdf_base.proofs.Places.{place_step, place_below, place_fits, digit_in}
use Rattle.tdf_base.proofs.Powers.{power_of_ten}
use Rattle.tdf_base.proofs.numerals.value.Goals as goal

pub overflow_mul-value : goal.overflow_mul-value
overflow_mul-value c =
    let few : c.loop-byte.byte-index < 18 = omega arith in
    let below : c.loop-byte.value < 10 ^ 17 = place_fits c.loop-byte.byte-index c.loop-byte.value few c.loop-byte.invariant.below in
    omega arith

pub overflow_add-value : goal.overflow_add-value
overflow_add-value c =
    let few : c.loop-byte.byte-index < 18 = omega arith in
    let below : c.loop-byte.value < 10 ^ 17 = place_fits c.loop-byte.byte-index c.loop-byte.value few c.loop-byte.invariant.below in
    let digit = digit_in c.args.text.now c.loop-byte.byte-index c.loop-byte-test.true c.requires.digits in
    omega arith

pub loop-byte-preserved : goal.loop-byte-preserved
loop-byte-preserved c =
    let digit = digit_in c.args.text.now c.loop-byte.byte-index c.loop-byte-test.true c.requires.digits in
    rw c.from.ensures (record {
      number = place_step c.args.text.now c.loop-byte.byte-index c.loop-byte.value c.loop-byte-test.true ∙ c.loop-byte.invariant.number;
      below = place_below c.loop-byte.value (get_or c.args.text.now c.loop-byte.byte-index 0 - 48) c.loop-byte.byte-index c.loop-byte.invariant.below digit.1;
    })

pub returns-clause-below : goal.returns-clause-below
returns-clause-below c =
    let few : c.loop-byte.byte-index ≤ 18 = omega arith in
    omega (arith, power_of_ten c.loop-byte.byte-index few)
