use Rattle.std.proofs.Common.{◌≡◌, drop}
use Rattle.tdf_base.specs.First.{least_with}
use Rattle.tdf_expr_names.specs.Names.{stmts_faults}
use Rattle.tdf_expr_names.specs.machine.Scope.{locals}
use Rattle.tdf_lang_tree.specs.Views.{pure_stmts}
use Rattle.tdf_expr_names.proofs.stmts.+bodies.Given as goal

abbrev pub invariant-check_stmts-loop-stmt : goal.invariant-check_stmts-loop-stmt
invariant-check_stmts-loop-stmt l = record {
  same : l.scope ≡ l.initial.scope;
  first : least_with l.first (stmts_faults l.initial.scope.globals (locals l.initial.scope) (pure_stmts (drop l.stmt-index l.stmt-items)))
      ≡ least_with l.initial.first (stmts_faults l.initial.scope.globals (locals l.initial.scope) (pure_stmts l.stmt-items));
}
