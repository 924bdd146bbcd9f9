-- What is noted so far, with what is left.
use Rattle.std.proofs.Common.{◌≡◌, drop}
use Rattle.std.specs.List.{flat_map}
use Rattle.tdf_expr_blocks.specs.Lines.{sense_faults}
use Rattle.tdf_base.specs.First.{least_with}
use Rattle.tdf_expr_blocks.proofs.blocks.note_senses.Given as goal

abbrev pub invariant-loop-sense : goal.invariant-loop-sense
invariant-loop-sense l = least_with l.first (flat_map (sense_faults l.scope) (drop l.sense-index l.sense-items)) ≡ least_with l.initial.first (flat_map (sense_faults l.scope) l.sense-items)
