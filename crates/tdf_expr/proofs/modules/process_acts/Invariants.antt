use Rattle.std.specs.Prelude.{map}
use Rattle.tdf_expr.proofs.Blocked.{AreMade}
use Rattle.tdf_expr.proofs.modules.process_acts.Given as goal
use Rattle.tdf_lang_tree.specs.Views.{pure_process}

abbrev pub invariant-loop-place : goal.invariant-loop-place
invariant-loop-place l = AreMade l.scope (map pure_process l.list.items) l.place l.acts.items
