-- What is noted so far, with what is left.
use Rattle.std.proofs.Common.{◌≡◌, drop}
use Rattle.std.specs.List.{flat_map}
use Rattle.std.specs.Prelude.{map}
use Rattle.tdf_expr_blocks.specs.Blocks.{process_faults}
use Rattle.tdf_lang_tree.specs.Views.{pure_process}
use Rattle.tdf_base.specs.First.{least_with}
use Rattle.tdf_expr_blocks.proofs.blocks.note_processes.Given as goal

abbrev pub invariant-loop-process : goal.invariant-loop-process
invariant-loop-process l = least_with l.first (flat_map (process_faults l.scope) (map pure_process (drop l.process-index l.process-items))) ≡ least_with l.initial.first (flat_map (process_faults l.scope) (map pure_process l.process-items))
