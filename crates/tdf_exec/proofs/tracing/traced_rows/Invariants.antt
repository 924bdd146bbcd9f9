use Rattle.tdf_exec.specs.machine.Tracing.{AreTracedUpTo}
use Rattle.tdf_exec.proofs.tracing.traced_rows.Given as goal

abbrev pub invariant-loop-n : goal.invariant-loop-n
invariant-loop-n l = AreTracedUpTo l.flat.tables l.n l.rows.items
