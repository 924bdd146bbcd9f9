-- What is noted so far, with what is left.
use Rattle.std.proofs.Common.{◌≡◌, drop}
use Rattle.std.specs.List.{flat_map}
use Rattle.tdf_expr_blocks.specs.Lines.{member_faults}
use Rattle.tdf_base.specs.First.{least_with}
use Rattle.tdf_expr_blocks.proofs.blocks.note_members.Given as goal

abbrev pub invariant-loop-member : goal.invariant-loop-member
invariant-loop-member l = least_with l.first (flat_map (member_faults l.scope) (drop l.member-index l.member-items)) ≡ least_with l.initial.first (flat_map (member_faults l.scope) l.member-items)
