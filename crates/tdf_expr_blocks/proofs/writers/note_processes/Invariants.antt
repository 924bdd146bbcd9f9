-- What is noted so far, with the processes that are left.
use Rattle.std.proofs.Common.{◌≡◌, drop}
use Rattle.std.specs.Prelude.{map}
use Rattle.tdf_expr_blocks.specs.machine.Written.{later}
use Rattle.tdf_base.specs.First.{least_with}
use Rattle.tdf_lang_tree.specs.Views.{pure_process}
use Rattle.tdf_expr_blocks.proofs.writers.note_processes.Given as goal

abbrev pub invariant-loop-process : goal.invariant-loop-process
invariant-loop-process l = least_with l.first (later l.scope.own l.written (map pure_process (drop l.process-index l.process-items)))
    ≡ least_with l.initial.first (later l.scope.own l.initial.written (map pure_process l.process-items))
