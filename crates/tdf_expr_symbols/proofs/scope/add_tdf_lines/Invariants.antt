use Rattle.std.proofs.Common.{◌≡◌, drop}
use Rattle.std.specs.Prelude.{map}
use Rattle.tdf_expr_symbols.specs.Names.{with_tdf_lines}
use Rattle.tdf_lang_tree.specs.Views.{pure_tdf_line}
use Rattle.tdf_expr_symbols.proofs.scope.add_tdf_lines.Given as goal

abbrev pub invariant-loop-line : goal.invariant-loop-line
invariant-loop-line l = with_tdf_lines l.globals (map pure_tdf_line (drop l.line-index l.line-items)) l.table ≡ with_tdf_lines l.globals (map pure_tdf_line l.line-items) l.initial.table
