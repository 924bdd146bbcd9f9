use Rattle.std.proofs.Common.{◌≡◌, drop}
use Rattle.std.specs.List.{flat_map}
use Rattle.std.specs.Prelude.{map}
use Rattle.tdf_base.specs.First.{least_with}
use Rattle.tdf_expr_names.specs.Names.{with_names, in_order, global_name_faults, names_of_global}
use Rattle.tdf_lang_tree.specs.Views.{pure_global}
use Rattle.tdf_expr_names.proofs.model.check_globals.Given as goal

abbrev pub invariant-loop-global : goal.invariant-loop-global
invariant-loop-global l = record {
  names : with_names l.globals (flat_map names_of_global (map pure_global (drop l.global-index l.global-items)))
      ≡ with_names l.initial.globals (flat_map names_of_global (map pure_global l.global-items));
  first : least_with l.first (in_order global_name_faults names_of_global l.globals (map pure_global (drop l.global-index l.global-items)))
      ≡ least_with l.initial.first (in_order global_name_faults names_of_global l.initial.globals (map pure_global l.global-items));
}
