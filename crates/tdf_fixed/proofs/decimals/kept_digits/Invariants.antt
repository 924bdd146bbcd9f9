-- What was looked at so far are zeros.
use Rattle.std.proofs.Common.{◌≡◌, ◌-◌, true, drop}
use Rattle.std.specs.List.{list_all}
use Rattle.tdf_fixed.specs.Zeros.{is_zero}
use Rattle.tdf_fixed.proofs.decimals.kept_digits.Given as goal

abbrev pub invariant-loop-k : goal.invariant-loop-k
invariant-loop-k l = list_all is_zero (drop (l.count - l.k) l.digits) ≡ true
