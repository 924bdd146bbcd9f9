use Rattle.tdf_exec.specs.machine.Tracing.{AreMarked}
use Rattle.tdf_exec.proofs.tracing.marks_of.Given as goal

abbrev pub invariant-loop-n : goal.invariant-loop-n
invariant-loop-n l = AreMarked l.tables.traces l.n l.marks.items
