use Rattle.std.proofs.Common.{◌≡◌, arith, length, rules}
use Rattle.tdf_dynamic_plans.proofs.Keeping.{all_keys}
use Rattle.tdf_dynamic_plans.proofs.known.is_key_of.Goals as goal

pub returns-clause-same : goal.returns-clause-same
returns-clause-same c = λ _.
    let long : length c.args.key.now ≡ length c.args.table.now = search rules in
    let end = c.loop-i-test.false in
    all_keys c.args.key.now c.args.table.now long (λ j k a less at there. c.loop-i.invariant j k a (omega (arith, less, end)) at there)
