use Rattle.std.proofs.Common.{◌≡◌, drop}
use Rattle.std.specs.List.{flat_map}
use Rattle.std.specs.Prelude.{map}
use Rattle.tdf_base.specs.First.{least_with}
use Rattle.tdf_expr_names.specs.Names.{in_order, de_line_name_faults, names_of_de_line}
use Rattle.tdf_expr_names.specs.machine.Scope.{declared}
use Rattle.tdf_lang_tree.specs.Views.{pure_de_line}
use Rattle.tdf_expr_names.proofs.lists.check_de_lines.Given as goal

abbrev pub invariant-loop-line : goal.invariant-loop-line
invariant-loop-line l = record {
  globals : l.scope.globals ≡ l.initial.scope.globals;
  names : declared l.scope (flat_map names_of_de_line (map pure_de_line (drop l.line-index l.line-items)))
      ≡ declared l.initial.scope (flat_map names_of_de_line (map pure_de_line l.line-items));
  first : least_with l.first (in_order (de_line_name_faults l.initial.scope.globals) names_of_de_line l.scope.own (map pure_de_line (drop l.line-index l.line-items)))
      ≡ least_with l.initial.first (in_order (de_line_name_faults l.initial.scope.globals) names_of_de_line l.initial.scope.own (map pure_de_line l.line-items));
}
