use Rattle.std.proofs.Common.{arith}
use Rattle.tdf_dynamic_plans.proofs.Rising.{rising_once, rises_more}
use Rattle.tdf_dynamic_plans.proofs.single.are_rising.Goals as goal

pub loop-i-preserved : goal.loop-i-preserved
loop-i-preserved c = let first = c.loop-i.invariant.first in record {
  first = omega (arith, first);
  rises = rises_more c.args.table.now c.loop-i.i c.loop-i.invariant.first (c.rises.ensures c.if-not-rises.false) c.loop-i.invariant.rises;
}

pub returns : goal.returns
returns c = λ is. rising_once c.args.table.now (λ k less. c.loop-i.invariant.rises k (let past = c.loop-i-test.false in omega (arith, less, past)))
