use Rattle.std.proofs.Common.{◌≤◌, length, take}
use Rattle.tdf_stim_lines.specs.Numbered.{attr_at, lines_at}
use Rattle.tdf_stim_lines.specs.machine.Walk.{Walks, last_number}
use Rattle.tdf_stim_lines.proofs.Walking.{IsAhead}
use Rattle.tdf_stim_lines.proofs.lines.number_attrs.Given as goal

abbrev pub invariant-loop-i : goal.invariant-loop-i
invariant-loop-i l = record {
  small : l.next ≤ last_number;
  unvisited : IsAhead l.i l.initial.list.items l.list.items;
  done : Walks length (lines_at attr_at) l.at l.next (take l.i l.initial.list.items) (take l.i l.list.items);
}
