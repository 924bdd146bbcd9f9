use Rattle.std.proofs.Common.{take}
use Rattle.tdf_lang_tree.specs.Views.{pure_stmts}
use Rattle.tdf_stim_lines.specs.Numbered.{stmts_at}
use Rattle.tdf_stim_lines.specs.machine.Walk.{Walks, stmts_size}
use Rattle.tdf_stim_lines.proofs.stmts.+number.Given as goal

abbrev pub invariant-number_stmts-loop-i : goal.invariant-number_stmts-loop-i
invariant-number_stmts-loop-i l = record {
  unvisited : goal.unvisited-number_stmts-loop-i l;
  done : Walks stmts_size stmts_at l.at l.next (pure_stmts (take l.i l.initial.list.items)) (pure_stmts (take l.i l.list.items));
}
