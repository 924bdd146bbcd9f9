-- What is taken is 0 or one range.
use Rattle.std.proofs.Common.{◌≡◌, ◌*◌, ◌%◌, ◌^◌, arith}
use Rattle.tdf_fixed.proofs.Shorts.{excess_small, small_power}
use Rattle.tdf_fixed.proofs.short.excess.Goals as goal

pub returns-clause-small : goal.returns-clause-small
returns-clause-small c =
    let power = small_power c.args.wl c.requires.wl.1 in
    let unit : 1 * 2 ^ c.args.wl % 18446744073709551616 ≡ 2 ^ c.args.wl = omega (arith, power) in
    let small = excess_small c.args.signed c.args.wl c.args.rest c.requires.wl.0 c.requires.rest in
    rw (unit, c.half.ensures.value) (omega (arith, power, small))
