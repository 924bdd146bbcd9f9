-- What is noted so far, with what is left.
use Rattle.std.proofs.Common.{◌≡◌, drop}
use Rattle.std.specs.List.{flat_map}
use Rattle.tdf_expr_blocks.specs.Lines.{initial_faults}
use Rattle.tdf_base.specs.First.{least_with}
use Rattle.tdf_expr_blocks.proofs.blocks.note_initials.Given as goal

abbrev pub invariant-loop-initial : goal.invariant-loop-initial
invariant-loop-initial l = least_with l.first (flat_map (initial_faults l.scope) (drop l.initial-index l.initial-items)) ≡ least_with l.initial.first (flat_map (initial_faults l.scope) l.initial-items)
