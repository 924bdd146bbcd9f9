use Rattle.std.proofs.Common.{◌≡◌, drop}
use Rattle.tdf_base.specs.First.{least_with}
use Rattle.tdf_expr_names.specs.Names.{in_order, member_name_faults, names_of_member}
use Rattle.tdf_expr_names.proofs.lists.check_members.Given as goal

abbrev pub invariant-loop-member : goal.invariant-loop-member
invariant-loop-member l = record {
  globals : l.scope.globals ≡ l.initial.scope.globals;
  first : least_with l.first (in_order (member_name_faults l.initial.scope.globals) names_of_member l.scope.own (drop l.member-index l.member-items))
      ≡ least_with l.initial.first (in_order (member_name_faults l.initial.scope.globals) names_of_member l.initial.scope.own l.member-items);
}
