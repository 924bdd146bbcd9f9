use Rattle.std.proofs.Common.{◌≡◌, drop}
use Rattle.std.specs.List.{flat_map}
use Rattle.tdf_base.specs.First.{least_with}
use Rattle.tdf_expr_names.specs.Names.{initial_name_faults}
use Rattle.tdf_expr_names.specs.machine.Scope.{locals}
use Rattle.tdf_expr_names.proofs.lists.check_initials.Given as goal

abbrev pub invariant-loop-initial : goal.invariant-loop-initial
invariant-loop-initial l = least_with l.first (flat_map (initial_name_faults (locals l.scope)) (drop l.initial-index l.initial-items)) ≡ least_with l.initial.first (flat_map (initial_name_faults (locals l.scope)) l.initial-items)
