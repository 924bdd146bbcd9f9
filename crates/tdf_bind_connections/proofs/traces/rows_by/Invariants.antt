use Rattle.tdf_bind_connections.specs.machine.TraceSteps.{TracesUpTo}
use Rattle.tdf_bind_connections.proofs.traces.rows_by.Given as goal

abbrev pub invariant-loop-i : goal.invariant-loop-i
invariant-loop-i l = TracesUpTo l.paths l.lines l.i l.rows.items
