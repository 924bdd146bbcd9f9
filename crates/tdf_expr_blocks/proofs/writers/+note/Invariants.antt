-- What is noted so far, with what is left.
use Rattle.std.proofs.Common.{◌≡◌, drop}
use Rattle.tdf_expr_blocks.specs.Writers.{assigned_all}
use Rattle.tdf_expr_blocks.specs.machine.Written.{agains}
use Rattle.tdf_base.specs.First.{least_with}
use Rattle.tdf_lang_tree.specs.Views.{pure_stmts}
use Rattle.tdf_expr_blocks.proofs.writers.+note.Given as goal

abbrev pub invariant-note_stmts-loop-stmt : goal.invariant-note_stmts-loop-stmt
invariant-note_stmts-loop-stmt l = least_with l.first (agains l.scope.own l.written (assigned_all (pure_stmts (drop l.stmt-index l.stmt-items))))
    ≡ least_with l.initial.first (agains l.scope.own l.written (assigned_all (pure_stmts l.stmt-items)))
