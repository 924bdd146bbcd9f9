use Rattle.tdf_trace.proofs.columns.any_waits.Given as goal
use Rattle.tdf_trace.specs.machine.Turning.{NoneWaits}

abbrev pub invariant-loop-i : goal.invariant-loop-i
invariant-loop-i l = NoneWaits l.columns.items l.time l.i
