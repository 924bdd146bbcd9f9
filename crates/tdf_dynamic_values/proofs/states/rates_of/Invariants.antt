use Rattle.std.proofs.Common.{◌≡◌, take}
use Rattle.tdf_dynamic_values.specs.States.{state_rates}
use Rattle.tdf_dynamic_values.proofs.states.rates_of.Given as goal

abbrev pub invariant-loop-i : goal.invariant-loop-i
invariant-loop-i l = l.rates.items ≡ state_rates (take l.i l.modules)
