use Rattle.std.proofs.Common.{◌≡◌, drop}
use Rattle.std.specs.List.{flat_map}
use Rattle.std.specs.Prelude.{map}
use Rattle.tdf_base.specs.First.{least_with}
use Rattle.tdf_expr_names.specs.Names.{process_name_faults}
use Rattle.tdf_expr_names.specs.machine.Scope.{locals}
use Rattle.tdf_lang_tree.specs.Views.{pure_process}
use Rattle.tdf_expr_names.proofs.blocks.check_processes.Given as goal

abbrev pub invariant-loop-process : goal.invariant-loop-process
invariant-loop-process l = record {
  same : l.scope ≡ l.initial.scope;
  first : least_with l.first (flat_map (process_name_faults l.initial.scope.globals (locals l.initial.scope)) (map pure_process (drop l.process-index l.process-items)))
      ≡ least_with l.initial.first (flat_map (process_name_faults l.initial.scope.globals (locals l.initial.scope)) (map pure_process l.process-items));
}
