use Rattle.tdf_exec_firing.specs.machine.Filling.{IsFilled}
use Rattle.tdf_exec_firing.proofs.taking.fill.Given as goal

abbrev pub invariant-loop-i : goal.invariant-loop-i
invariant-loop-i l = IsFilled l.port l.i l.ring.samples l.initial.ports l.ports
