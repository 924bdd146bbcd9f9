-- What is noted and counted so far, with what is left.
use Rattle.std.proofs.Common.{◌≡◌, ◌+◌, ◌≤◌, drop}
use Rattle.std.specs.Prelude.{map}
use Rattle.tdf_expr_types.specs.machine.Weights.{capped}
use Rattle.tdf_base.specs.First.{least_with}
use Rattle.tdf_expr_symbols.specs.Faults.{stmts_faults}
use Rattle.tdf_expr_symbols.specs.Seen.{seen_loop}
use Rattle.tdf_expr_symbols.specs.Weight.{weights}
use Rattle.tdf_lang_tree.specs.Views.{pure_stmts}
use Rattle.tdf_expr_types.proofs.stmts.+check.Given as goal

abbrev pub invariant-check_stmts-loop-stmt : goal.invariant-check_stmts-loop-stmt
invariant-check_stmts-loop-stmt l = record {
  first : least_with l.first (stmts_faults l.scope l.part (map seen_loop l.initial.loops.items) (pure_stmts (drop l.stmt-index l.stmt-items)))
      ≡ least_with l.initial.first (stmts_faults l.scope l.part (map seen_loop l.initial.loops.items) (pure_stmts l.stmt-items));
  weight : capped (l.total + weights l.scope.own (pure_stmts (drop l.stmt-index l.stmt-items))) ≡ capped (weights l.scope.own (pure_stmts l.stmt-items));
  small : l.total ≤ 65537;
  back : l.loops.items ≡ l.initial.loops.items;
}
