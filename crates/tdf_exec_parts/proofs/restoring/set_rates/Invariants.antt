use Rattle.tdf_exec_parts.specs.machine.Restoring.{AreRatesSet}
use Rattle.tdf_exec_parts.proofs.restoring.set_rates.Given as goal

abbrev pub invariant-loop-i : goal.invariant-loop-i
invariant-loop-i l = AreRatesSet l.rates l.i l.initial.frame l.frame
