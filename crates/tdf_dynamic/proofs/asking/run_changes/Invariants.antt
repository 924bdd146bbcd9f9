use Rattle.tdf_dynamic.specs.machine.Asking.{HaveAsked}
use Rattle.tdf_dynamic.proofs.asking.run_changes.Given as goal

abbrev pub invariant-loop-i : goal.invariant-loop-i
invariant-loop-i l = HaveAsked l.flat l.table l.i l.initial.frames.items l.frames.items
