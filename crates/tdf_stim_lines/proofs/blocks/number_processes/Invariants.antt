use Rattle.std.proofs.Common.{map, take}
use Rattle.tdf_lang_printer.specs.Canon.{process_lines}
use Rattle.tdf_lang_tree.specs.Views.{pure_process}
use Rattle.tdf_stim_lines.specs.Numbered.{process_at, parts_at}
use Rattle.tdf_stim_lines.specs.machine.Walk.{Walks, processes_size}
use Rattle.tdf_stim_lines.proofs.Walking.{IsAhead}
use Rattle.tdf_stim_lines.proofs.blocks.number_processes.Given as goal

abbrev pub invariant-loop-i : goal.invariant-loop-i
invariant-loop-i l = record {
  unvisited : IsAhead l.i l.initial.list.items l.list.items;
  done : Walks processes_size (parts_at process_lines process_at) l.at l.next (map pure_process (take l.i l.initial.list.items)) (map pure_process (take l.i l.list.items));
}
