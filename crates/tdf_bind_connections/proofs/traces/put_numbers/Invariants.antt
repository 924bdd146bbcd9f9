use Rattle.std.proofs.Common.{take}
use Rattle.tdf_bind_connections.specs.machine.TraceSteps.{Finds}
use Rattle.tdf_bind_connections.proofs.traces.put_numbers.Given as goal

abbrev pub invariant-loop-i : goal.invariant-loop-i
invariant-loop-i l = Finds l.tables l.limit (take l.i l.numbers) l.paths
