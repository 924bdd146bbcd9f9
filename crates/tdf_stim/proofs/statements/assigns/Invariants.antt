use Rattle.std.proofs.Common.{◌≡◌, map}
use Rattle.std.specs.List.{range_with_len}
use Rattle.tdf_lang_tree.specs.Views.{pure_stmt}
use Rattle.tdf_stim.specs.Driver.{assign}
use Rattle.tdf_stim.proofs.statements.assigns.Given as goal

abbrev pub invariant-loop-number : goal.invariant-loop-number
invariant-loop-number l = map pure_stmt l.list.items ≡ map assign (range_with_len 0 l.number)
