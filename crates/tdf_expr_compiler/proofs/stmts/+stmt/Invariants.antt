use Rattle.std.proofs.Common.{◌≡◌, take}
use Rattle.std.specs.Prelude.{map}
use Rattle.tdf_expr_compiler.specs.machine.Acting.{AreActs}
use Rattle.tdf_expr_symbols.specs.Seen.{seen_loop}
use Rattle.tdf_lang_tree.specs.Views.{pure_stmts}
use Rattle.tdf_expr_compiler.proofs.stmts.+stmt.Given as goal

abbrev pub invariant-compile_all-loop-stmt : goal.invariant-compile_all-loop-stmt
invariant-compile_all-loop-stmt l = record {
  done : AreActs l.scope (map seen_loop l.initial.loops.items) (pure_stmts (take l.stmt-index l.stmt-items)) l.acts.items;
  back : l.loops.items ≡ l.initial.loops.items;
}
