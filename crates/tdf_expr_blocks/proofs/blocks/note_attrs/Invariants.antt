-- What is noted so far, with what is left.
use Rattle.std.proofs.Common.{◌≡◌, drop}
use Rattle.std.specs.List.{flat_map}
use Rattle.tdf_expr_blocks.specs.Lines.{attr_faults}
use Rattle.tdf_base.specs.First.{least_with}
use Rattle.tdf_expr_blocks.proofs.blocks.note_attrs.Given as goal

abbrev pub invariant-loop-attr : goal.invariant-loop-attr
invariant-loop-attr l = least_with l.first (flat_map (attr_faults l.scope) (drop l.attr-index l.attr-items)) ≡ least_with l.initial.first (flat_map (attr_faults l.scope) l.attr-items)
