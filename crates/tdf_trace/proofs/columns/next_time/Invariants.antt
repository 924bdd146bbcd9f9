use Rattle.tdf_trace.specs.machine.Turning.{IsNext}
use Rattle.tdf_trace.proofs.columns.next_time.Given as goal

abbrev pub invariant-loop-i : goal.invariant-loop-i
invariant-loop-i l = IsNext l.columns.items l.i l.limit l.best
