use Rattle.std.proofs.Common.{◌≡◌, drop}
use Rattle.std.specs.List.{flat_map}
use Rattle.tdf_base.specs.First.{least_with}
use Rattle.tdf_expr_names.specs.Names.{sense_name_faults}
use Rattle.tdf_expr_names.specs.machine.Scope.{locals}
use Rattle.tdf_expr_names.proofs.lists.check_senses.Given as goal

abbrev pub invariant-loop-sense : goal.invariant-loop-sense
invariant-loop-sense l = least_with l.first (flat_map (sense_name_faults (locals l.scope)) (drop l.sense-index l.sense-items)) ≡ least_with l.initial.first (flat_map (sense_name_faults (locals l.scope)) l.sense-items)
