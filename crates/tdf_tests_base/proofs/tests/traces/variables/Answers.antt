use Rattle.std.proofs.Common.{arith, ◌≡◌, ◌≤◌}
use Rattle.tdf_tests_base.proofs.tests.traces.variables.Goals as goal

pub returns-clause-can : goal.returns-clause-can
returns-clause-can c = record {
  few = (let e = c.loop-i.invariant.many in omega (arith, e));
  first = c.loop-i.invariant.few;
}
