use Rattle.tdf_exec.specs.machine.Restarting.{AreRestartedUpTo}
use Rattle.tdf_exec.proofs.restarting.restart_all.Given as goal

abbrev pub invariant-loop-i : goal.invariant-loop-i
invariant-loop-i l = AreRestartedUpTo l.flat l.attrs.rows l.i l.initial.runners.items l.runners.items
