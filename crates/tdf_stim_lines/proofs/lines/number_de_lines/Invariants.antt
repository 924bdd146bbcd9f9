use Rattle.std.proofs.Common.{◌≤◌, length, map, take}
use Rattle.tdf_lang_tree.specs.Views.{pure_de_line}
use Rattle.tdf_stim_lines.specs.Numbered.{de_line_at, lines_at}
use Rattle.tdf_stim_lines.specs.machine.Walk.{Walks, last_number}
use Rattle.tdf_stim_lines.proofs.Walking.{IsAhead}
use Rattle.tdf_stim_lines.proofs.lines.number_de_lines.Given as goal

abbrev pub invariant-loop-i : goal.invariant-loop-i
invariant-loop-i l = record {
  small : l.next ≤ last_number;
  unvisited : IsAhead l.i l.initial.list.items l.list.items;
  done : Walks length (lines_at de_line_at) l.at l.next (map pure_de_line (take l.i l.initial.list.items)) (map pure_de_line (take l.i l.list.items));
}
