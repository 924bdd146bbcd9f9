-- What is noted so far, with what is left.
use Rattle.std.proofs.Common.{◌≡◌, drop}
use Rattle.std.specs.List.{flat_map}
use Rattle.std.specs.Prelude.{map}
use Rattle.tdf_expr_blocks.specs.Lines.{tdf_line_faults}
use Rattle.tdf_lang_tree.specs.Views.{pure_tdf_line}
use Rattle.tdf_base.specs.First.{least_with}
use Rattle.tdf_expr_blocks.proofs.blocks.note_tdf_lines.Given as goal

abbrev pub invariant-loop-line : goal.invariant-loop-line
invariant-loop-line l = least_with l.first (flat_map (tdf_line_faults l.scope.globals) (map pure_tdf_line (drop l.line-index l.line-items))) ≡ least_with l.initial.first (flat_map (tdf_line_faults l.scope.globals) (map pure_tdf_line l.line-items))
