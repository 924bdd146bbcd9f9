use Rattle.std.proofs.Common.{◌≡◌, drop}
use Rattle.tdf_expr_symbols.specs.Names.{with_members}
use Rattle.tdf_expr_symbols.proofs.scope.add_members.Given as goal

abbrev pub invariant-loop-member : goal.invariant-loop-member
invariant-loop-member l = with_members l.globals (drop l.member-index l.member-items) l.table ≡ with_members l.globals l.member-items l.initial.table
