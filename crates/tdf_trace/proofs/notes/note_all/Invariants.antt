use Rattle.std.proofs.Common.{take}
use Rattle.tdf_trace.proofs.notes.note_all.Given as goal
use Rattle.tdf_trace.specs.machine.Showing.{IsNoting}

abbrev pub invariant-loop-i : goal.invariant-loop-i
invariant-loop-i l = IsNoting (take l.i l.columns.items) l.time l.value l.initial.trace l.trace
