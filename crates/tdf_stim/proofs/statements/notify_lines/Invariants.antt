use Rattle.std.proofs.Common.{◌≡◌, map, take}
use Rattle.tdf_lang_tree.specs.Views.{pure_stmt}
use Rattle.tdf_stim.specs.Driver.{notify_lines}
use Rattle.tdf_stim.proofs.statements.notify_lines.Given as goal

abbrev pub invariant-loop-i : goal.invariant-loop-i
invariant-loop-i l = map pure_stmt l.list.items ≡ notify_lines 1 (take l.i l.times)
