use Rattle.std.proofs.Common.{◌≡◌, drop}
use Rattle.std.specs.List.{flat_map}
use Rattle.tdf_base.specs.First.{least_with}
use Rattle.tdf_expr_names.specs.Names.{attr_name_faults}
use Rattle.tdf_expr_names.specs.machine.Scope.{locals}
use Rattle.tdf_expr_names.proofs.lists.check_attrs.Given as goal

abbrev pub invariant-loop-attr : goal.invariant-loop-attr
invariant-loop-attr l = least_with l.first (flat_map (attr_name_faults (locals l.scope)) (drop l.attr-index l.attr-items)) ≡ least_with l.initial.first (flat_map (attr_name_faults (locals l.scope)) l.attr-items)
