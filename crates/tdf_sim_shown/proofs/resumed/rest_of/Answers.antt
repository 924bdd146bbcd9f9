use Rattle.std.proofs.Common.{◌≡◌, ◌+◌, ◌-◌, ◌*◌, ◌≤◌, ap, arith}
use Rattle.std.proofs.Math.Nat.{add-mul, mul-le-mul_right}
use Rattle.tdf_sim_shown.proofs.resumed.rest_of.Goals as goal

pub overflow_mul-result : goal.overflow_mul-result
overflow_mul-result c =
    let m : c.positions_before-skipped.result * c.args.step ≤ c.args.count * c.args.step = mul-le-mul_right c.args.step c.positions_before-skipped.ensures.within in
    let s = c.requires.small in omega (arith, m, s)

pub overflow_add-result : goal.overflow_add-result
overflow_add-result c =
    let m : c.positions_before-skipped.result * c.args.step ≤ c.args.count * c.args.step = mul-le-mul_right c.args.step c.positions_before-skipped.ensures.within in
    let s = c.requires.small in omega (arith, m, s)

pub overflow_add-result-2 : goal.overflow_add-result-2
overflow_add-result-2 c =
    let w = c.positions_before-skipped.ensures.within in
    let d = c.min-done.ensures in
    let both : c.positions_before-skipped.result + c.min-done.result ≤ c.args.count = omega (arith, w, d) in
    let m : (c.positions_before-skipped.result + c.min-done.result) * c.args.step ≤ c.args.count * c.args.step = mul-le-mul_right c.args.step both in
    let a = add-mul c.positions_before-skipped.result c.min-done.result c.args.step in
    let s = c.requires.small in omega (arith, m, a, s)

pub returns-clause-end : goal.returns-clause-end
returns-clause-end c =
    let w = c.positions_before-skipped.ensures.within in
    let d = c.min-done.ensures in
    let whole : c.positions_before-skipped.result + c.min-done.result + (c.args.count - c.positions_before-skipped.result - c.min-done.result) ≡ c.args.count = omega (arith, w, d) in
    let m : (c.positions_before-skipped.result + c.min-done.result + (c.args.count - c.positions_before-skipped.result - c.min-done.result)) * c.args.step ≡ c.args.count * c.args.step = ap (λ k. k * c.args.step) whole in
    let a = add-mul (c.positions_before-skipped.result + c.min-done.result) (c.args.count - c.positions_before-skipped.result - c.min-done.result) c.args.step in
    let b = add-mul c.positions_before-skipped.result c.min-done.result c.args.step in omega (arith, m, a, b)
