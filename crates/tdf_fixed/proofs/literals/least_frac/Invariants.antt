-- No count so far was enough.
use Rattle.std.proofs.Common.{◌≡◌, ◌+◌, ◌-◌}
use Rattle.tdf_fixed.specs.Literal.{least_fraction}
use Rattle.tdf_fixed.proofs.literals.least_frac.Given as goal

abbrev pub invariant-loop-frac : goal.invariant-loop-frac
invariant-loop-frac l = least_fraction l.part l.d (l.digits + 1 - l.frac) l.frac ≡ least_fraction l.part l.d (l.digits + 1) 0
