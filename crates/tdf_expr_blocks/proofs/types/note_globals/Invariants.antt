-- What is noted so far, with what is left.
use Rattle.std.proofs.Common.{◌≡◌, drop}
use Rattle.std.specs.List.{flat_map}
use Rattle.std.specs.Prelude.{map}
use Rattle.tdf_expr_blocks.specs.Types.{global_faults}
use Rattle.tdf_lang_tree.specs.Views.{pure_global}
use Rattle.tdf_base.specs.First.{least_with}
use Rattle.tdf_expr_blocks.proofs.types.note_globals.Given as goal

abbrev pub invariant-loop-global : goal.invariant-loop-global
invariant-loop-global l = least_with l.first (flat_map (global_faults l.globals) (map pure_global (drop l.global-index l.global-items))) ≡ least_with l.initial.first (flat_map (global_faults l.globals) (map pure_global l.global-items))
