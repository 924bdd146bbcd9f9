use Rattle.std.proofs.Common.{◌≡◌, ◌++◌, map, drop}
use Rattle.tdf_bind_attributes.proofs.processes.process_lines.Given as goal
use Rattle.tdf_bind_attributes.specs.machine.Processes.{process_with}
use Rattle.tdf_lang_tree.specs.Views.{pure_process}

abbrev pub invariant-loop-process : goal.invariant-loop-process
invariant-loop-process l = l.lines.items ++ map (process_with (map (λ p. p.name) l.ports) l.events) (map pure_process (drop l.process-index l.process-items))
    ≡ map (process_with (map (λ p. p.name) l.ports) l.events) (map pure_process l.process-items)
