use Rattle.std.proofs.Common.{◌≡◌, take}
use Rattle.tdf_dynamic.proofs.tables.put_rates.Given as goal

abbrev pub invariant-loop-i : goal.invariant-loop-i
invariant-loop-i l = l.rates.items ≡ take l.i l.frame.state.rates
