use Rattle.std.proofs.Common.{map, take}
use Rattle.tdf_lang_printer.specs.Canon.{global_lines}
use Rattle.tdf_lang_tree.specs.Views.{pure_global}
use Rattle.tdf_stim_lines.specs.Numbered.{global_at, parts_at}
use Rattle.tdf_stim_lines.specs.machine.Walk.{Walks, globals_size}
use Rattle.tdf_stim_lines.proofs.Walking.{IsAhead}
use Rattle.tdf_stim_lines.proofs.blocks.number_globals.Given as goal

abbrev pub invariant-loop-i : goal.invariant-loop-i
invariant-loop-i l = record {
  unvisited : IsAhead l.i l.initial.list.items l.list.items;
  done : Walks globals_size (parts_at global_lines global_at) l.at l.next (map pure_global (take l.i l.initial.list.items)) (map pure_global (take l.i l.list.items));
}
