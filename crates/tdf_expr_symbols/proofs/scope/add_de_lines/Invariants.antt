use Rattle.std.proofs.Common.{◌≡◌, drop}
use Rattle.std.specs.Prelude.{map}
use Rattle.tdf_expr_symbols.specs.Names.{with_de_lines}
use Rattle.tdf_lang_tree.specs.Views.{pure_de_line}
use Rattle.tdf_expr_symbols.proofs.scope.add_de_lines.Given as goal

abbrev pub invariant-loop-line : goal.invariant-loop-line
invariant-loop-line l = with_de_lines l.globals (map pure_de_line (drop l.line-index l.line-items)) l.table ≡ with_de_lines l.globals (map pure_de_line l.line-items) l.initial.table
