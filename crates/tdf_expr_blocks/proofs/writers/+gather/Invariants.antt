-- What is gathered so far, with what is left.
use Rattle.std.proofs.Common.{◌≡◌, drop}
use Rattle.tdf_expr_blocks.specs.Writers.{assigned_all}
use Rattle.tdf_expr_blocks.specs.machine.Written.{with_all}
use Rattle.tdf_lang_tree.specs.Views.{pure_stmts}
use Rattle.tdf_expr_blocks.proofs.writers.+gather.Given as goal

abbrev pub invariant-gather_stmts-loop-stmt : goal.invariant-gather_stmts-loop-stmt
invariant-gather_stmts-loop-stmt l = with_all l.written (assigned_all (pure_stmts (drop l.stmt-index l.stmt-items)))
    ≡ with_all l.initial.written (assigned_all (pure_stmts l.stmt-items))
