use Rattle.std.proofs.Common.{rules, ◌≡◌, ◌<◌, true, arith, refl}
use Rattle.tdf_sim_instants.specs.Crossing.{is_ending}
use Rattle.tdf_sim_instants.proofs.crossing.cross_turn.Goals as goal

pub returns-clause-planned : goal.returns-clause-planned
returns-clause-planned c is =
    let next = c.cross.ensures.planned is in
    let over : is_ending c.args.time c.args.since.now c.args.cluster.now ≡ true = search rules in
    let some : 0 < c.args.left.now = (let n = c.if-left-eq0.false in omega (arith, n)) in
    record {
      over = over;
      some = some;
      next = next.0;
      new_is = next.1;
      between = next.2;
      passed = next.3;
      now = refl;
      turns = refl;
    }

pub returns-clause-refused : goal.returns-clause-refused
returns-clause-refused c fault is =
    let answer = c.cross.ensures.refused fault is in
    let over : is_ending c.args.time c.args.since.now c.args.cluster.now ≡ true = search rules in
    let some : 0 < c.args.left.now = (let n = c.if-left-eq0.false in omega (arith, n)) in
    record {
      over = over;
      some = some;
      answered = answer.0;
      crossed = answer.1;
    }
