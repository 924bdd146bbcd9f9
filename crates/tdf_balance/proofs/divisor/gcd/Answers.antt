use Rattle.std.proofs.Common.{arith}
use Rattle.std.proofs.lemmas.Nat.Gcd.{IsGcd-from_zero, IsGcd-from_mod}
use Rattle.tdf_balance.proofs.divisor.gcd.Goals as goal

pub loop-rest-preserved : goal.loop-rest-preserved
loop-rest-preserved c = record {
  some = let t = c.loop-rest-test.true in omega (arith, t);
  same = λ g is. c.loop-rest.invariant.same g (IsGcd-from_mod c.loop-rest.greater c.loop-rest.rest g is);
}

pub returns-clause-divisor : goal.returns-clause-divisor
returns-clause-divisor c = c.loop-rest.invariant.same c.loop-rest.greater (IsGcd-from_zero c.loop-rest.greater c.loop-rest.rest c.loop-rest-test.false)
