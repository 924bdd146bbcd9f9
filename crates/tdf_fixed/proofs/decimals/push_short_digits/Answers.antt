-- So many millionths of the count are fewer than those of a second, and so are the thousandths.
use Rattle.std.proofs.Common.{rules, arith, ◌≤◌}
use Rattle.tdf_fixed.proofs.ShortTimes.{fewer_millionths, fewer_thousandths}
use Rattle.tdf_fixed.proofs.decimals.push_short_digits.Goals as goal

pub push_time_digits-requires-clause-rest : goal.push_time_digits-requires-clause-rest
push_time_digits-requires-clause-rest c = fewer_millionths c.args.places c.args.second c.args.rest c.requires.some c.requires.second c.requires.rest (search rules)

pub push_time_digits-requires-then-rest-eq0-2-clause-rest : goal.push_time_digits-requires-then-rest-eq0-2-clause-rest
push_time_digits-requires-then-rest-eq0-2-clause-rest c =
    let three : 3 ≤ c.args.places = omega (arith, c.requires.some) in
    fewer_thousandths c.args.places c.args.second c.args.rest three c.requires.second c.requires.rest (search rules)
